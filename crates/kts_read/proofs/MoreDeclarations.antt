-- A declaration more.
use Rattle.std.proofs.Common.{◌≡◌, refl, ◌∙◌, ap, ℕ, zero, suc, ◌<◌, List, [], ◌∷◌, ◌++◌, length, map, fold, get_or, Bool, true, false, ◌&&◌, nat_eq, arith}
use Rattle.std.specs.List.{list_any}
use Rattle.std.proofs.lemmas.Bool.{and_from, or_parts, or_from}
use Rattle.std.proofs.lemmas.List.Sums.{fold-append}
use Rattle.kts_spec.specs.Schemas.{DeclaredCounts, declared_with, is_declaration, are_declarations}
use Rattle.kts_spec.specs.declared.declarations.Decl.{Decl}
use Rattle.kts_spec.specs.declared.declarations.Decl.TheVariants.{Index, Given, Choose, Manifest}
use Rattle.kts_spec.specs.declared.declarations.Family.{Family}
use Rattle.kts_read.specs.DeclarationLines.{is_manifest_of}

and_assoc : (a b c : Bool) → (a && (b && c)) ≡ ((a && b) && c)
and_assoc true b c = refl
and_assoc false b c = refl

and_end : (a : Bool) → (a && true) ≡ (true && a)
and_end true = refl
and_end false = refl

module _ (gs cs : List Family) where
  pub declared-append : (s : DeclaredCounts) (ds : List Decl) (x : Decl) → are_declarations gs cs s (ds ++ x ∷ []) ≡ (are_declarations gs cs s ds && is_declaration gs cs (fold declared_with s ds) x)
  declared-append s [] x = and_end (is_declaration gs cs s x)
  declared-append s (d ∷ ds) x =
      ap (λ (b : Bool). is_declaration gs cs s d && b) (declared-append (declared_with s d) ds x)
      ∙ and_assoc (is_declaration gs cs s d) (are_declarations gs cs (declared_with s d) ds) (is_declaration gs cs (fold declared_with s (d ∷ ds)) x)

  pub declared_on : (s : DeclaredCounts) (ds : List Decl) (x : Decl) → are_declarations gs cs s ds ≡ true → is_declaration gs cs (fold declared_with s ds) x ≡ true → are_declarations gs cs s (ds ++ x ∷ []) ≡ true
  declared_on s ds x a h = declared-append s ds x ∙ and_from (are_declarations gs cs s ds) (is_declaration gs cs (fold declared_with s ds) x) a h

pub ending_on : (s : DeclaredCounts) (ds : List Decl) (x : Decl) → fold declared_with s (ds ++ x ∷ []) ≡ declared_with (fold declared_with s ds) x
ending_on s ds x = fold-append declared_with s ds (x ∷ [])

-- the item after others
pub item_here : {X : Type 0} (xs ys : List X) (x d : X) → get_or (xs ++ x ∷ ys) (length xs) d ≡ x
item_here [] ys x d = refl
item_here (y ∷ xs) ys x d = item_here xs ys x d

-- an item before others
pub item_front : {X : Type 0} (xs ys : List X) (k : ℕ) (d : X) → k < length xs → get_or (xs ++ ys) k d ≡ get_or xs k d
item_front [] ys k d h = absurd (omega (arith, h))
item_front (x ∷ xs) ys zero d h = refl
item_front (x ∷ xs) ys (suc k) d h = item_front xs ys k d (omega (arith, h))

-- no manifest of a choice is among the declarations, and none is counted
pub no_manifest : (x : ℕ) (s : DeclaredCounts) (ds : List Decl) → list_any (is_manifest_of x) ds ≡ false → list_any (nat_eq x) s.manifests ≡ false → list_any (nat_eq x) (fold declared_with s ds).manifests ≡ false
no_manifest x s [] e n = n
no_manifest x s (Index i ∷ ds) e n = no_manifest x (declared_with s (Index i)) ds e n
no_manifest x s (Given f ∷ ds) e n = no_manifest x (declared_with s (Given f)) ds e n
no_manifest x s (Choose y ∷ ds) e n = no_manifest x (declared_with s (Choose y)) ds e n
no_manifest x s (Manifest y ∷ ds) e n =
    let both = or_parts (nat_eq x y) (list_any (is_manifest_of x) ds) e in
    no_manifest x (declared_with s (Manifest y)) ds both.1 (or_from (nat_eq x y) (list_any (nat_eq x) s.manifests) both.0 n)

pub map_more : {X Y : Type 0} (f : X → Y) (xs : List X) (x : X) → map f (xs ++ x ∷ []) ≡ map f xs ++ f x ∷ []
map_more f [] x = refl
map_more f (y ∷ ys) x = ap (λ rest. f y ∷ rest) (map_more f ys x)
