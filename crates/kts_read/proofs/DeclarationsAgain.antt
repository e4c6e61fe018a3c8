-- Declarations that are written are read again.
use Rattle.std.proofs.Common.{◌≡◌, refl, subst, ℕ, ◌<◌, ◌≤◌, List, [], ◌∷◌, ◌++◌, length, fold, Bool, true, false, nat_eq, Ok, arith}
use Rattle.std.specs.Prelude.{codes, decimal}
use Rattle.std.specs.List.{list_all, list_any, AllByRecursion}
use Rattle.std.proofs.lemmas.Bool.{and_parts, or_parts, or_from}
use Rattle.kts_base.specs.Limits.{most_indexes, most_givens, most_choices, most_instructions}
use Rattle.kts_code.specs.CodeTexts.{family_words}
use Rattle.kts_spec.specs.Names.{is_language_name}
use Rattle.kts_spec.specs.Schemas.{DeclaredCounts, declared_with, is_declaration, are_declarations, family_at, is_family, assigns_members}
use Rattle.kts_spec.specs.declared.declarations.Decl.{Decl}
use Rattle.kts_spec.specs.declared.declarations.Decl.TheVariants.{Index, Given, Choose, Manifest}
use Rattle.kts_spec.specs.declared.declarations.Family.{Family}
use Rattle.kts_read.specs.DeclarationLines.{is_taken, index_line, with_given, given_line, with_choice, choose_line, is_manifest_of, has_manifest, with_manifest, manifest_line}
use Rattle.kts_read.specs.declared.declarations.Declared.{Declared}
use Rattle.kts_read.proofs.DeclarationAdds.{more_index, more_given, more_choice, more_manifest}
use Rattle.kts_read.proofs.FamiliesAgain.{below_again, family_again}
use Rattle.kts_read.proofs.Tests.{lt_test}

-- ---- parts of lists

-- what holds of all holds of each
pub all_at : {X : Type 0} (test : X → Bool) (xs ys : List X) (x : X) → list_all test (xs ++ x ∷ ys) ≡ true → test x ≡ true
all_at test [] ys x h = (and_parts (test x) (list_all test ys) h).0
all_at test (y ∷ xs) ys x h = all_at test xs ys x (and_parts (test y) (list_all test (xs ++ x ∷ ys)) h).1

pub every_at : {X : Type 0} (P : X → Type 0) (xs ys : List X) (x : X) → AllByRecursion P (xs ++ x ∷ ys) → P x
every_at P [] ys x h = h.0
every_at P (y ∷ xs) ys x h = every_at P xs ys x h.1

-- a declaration stands after those before it
pub declared_at : (gs cs : List Family) (s : DeclaredCounts) (ds more : List Decl) (x : Decl) → are_declarations gs cs s (ds ++ x ∷ more) ≡ true → is_declaration gs cs (fold declared_with s ds) x ≡ true
declared_at gs cs s [] more x h = (and_parts (is_declaration gs cs s x) _ h).0
declared_at gs cs s (d ∷ ds) more x h = declared_at gs cs (declared_with s d) ds more x (and_parts (is_declaration gs cs s d) _ h).1

-- no more is counted before than at the end
pub record CountsWithin (a b : DeclaredCounts) : Type 0 where
  pub indexes : a.indexes ≤ b.indexes
  pub givens : a.givens ≤ b.givens
  pub choices : a.choices ≤ b.choices

counts_rise : (s : DeclaredCounts) (ds : List Decl) → CountsWithin s (fold declared_with s ds)
counts_rise s [] = record { indexes = omega arith; givens = omega arith; choices = omega arith }
counts_rise s (Index i ∷ ds) = let r = counts_rise (declared_with s (Index i)) ds in let a = r.indexes in record { indexes = omega (arith, a); givens = r.givens; choices = r.choices }
counts_rise s (Given f ∷ ds) = let r = counts_rise (declared_with s (Given f)) ds in let a = r.givens in record { indexes = r.indexes; givens = omega (arith, a); choices = r.choices }
counts_rise s (Choose f ∷ ds) = let r = counts_rise (declared_with s (Choose f)) ds in let a = r.choices in record { indexes = r.indexes; givens = r.givens; choices = omega (arith, a) }
counts_rise s (Manifest f ∷ ds) = let r = counts_rise (declared_with s (Manifest f)) ds in record { indexes = r.indexes; givens = r.givens; choices = r.choices }

pub counts_within : (s : DeclaredCounts) (done more all : List Decl) → done ++ more ≡ all → CountsWithin (fold declared_with s done) (fold declared_with s all)
counts_within s done more all e = subst (λ (ds : List Decl). CountsWithin (fold declared_with s done) (fold declared_with s ds)) e (at_end s done more)
  where
    at_end : (s : DeclaredCounts) (done more : List Decl) → CountsWithin (fold declared_with s done) (fold declared_with s (done ++ more))
    at_end s [] more = counts_rise s more
    at_end s (d ∷ ds) more = at_end (declared_with s d) ds more

-- a manifest that is counted stands among the declarations
pub manifest_counted : (x : ℕ) (s : DeclaredCounts) (ds : List Decl) → list_any (nat_eq x) (fold declared_with s ds).manifests ≡ false → (list_any (is_manifest_of x) ds ≡ false) × (list_any (nat_eq x) s.manifests ≡ false)
manifest_counted x s [] h = (refl, h)
manifest_counted x s (Index i ∷ ds) h = manifest_counted x (declared_with s (Index i)) ds h
manifest_counted x s (Given f ∷ ds) h = manifest_counted x (declared_with s (Given f)) ds h
manifest_counted x s (Choose y ∷ ds) h = manifest_counted x (declared_with s (Choose y)) ds h
manifest_counted x s (Manifest y ∷ ds) h =
    let r = manifest_counted x (declared_with s (Manifest y)) ds h in
    let both = or_parts (nat_eq x y) (list_any (nat_eq x) s.manifests) r.1 in
    (or_from (nat_eq x y) (list_any (is_manifest_of x) ds) both.0 r.0, both.1)

-- ---- the lines

pub index_again : (y : Declared) (name : List ℕ) → is_taken y name ≡ false → is_language_name name ≡ true → length y.indexes < most_indexes → index_line y (codes "index" ∷ name ∷ []) ≡ Ok (more_index y name)
unfolding index_line
index_again y name free named room = rw (free, named, lt_test (length y.indexes) most_indexes room) refl

pub given_again : (y : Declared) (f : Family) → is_language_name f.name ≡ true → is_taken y f.name ≡ false → length y.indexes ≤ most_instructions → is_family (length y.indexes) f ≡ true → length y.givens < most_givens
    → given_line y (codes "given" ∷ family_words f) ≡ Ok (more_given y f)
unfolding given_line with_given
given_again y f named free small sound room =
    rw (family_again y (codes "given") f.name f.args named free small f.kind sound, lt_test (length y.givens) most_givens room) refl

pub choose_again : (y : Declared) (f : Family) → is_language_name f.name ≡ true → is_taken y f.name ≡ false → length y.indexes ≤ most_instructions → is_family (length y.indexes) f ≡ true → length y.choices < most_choices
    → choose_line y (codes "choose" ∷ family_words f) ≡ Ok (more_choice y f)
unfolding choose_line with_choice
choose_again y f named free small sound room =
    rw (family_again y (codes "choose") f.name f.args named free small f.kind sound, lt_test (length y.choices) most_choices room) refl

pub manifest_again : (y : Declared) (choice : ℕ) → choice < length y.choices → length y.choices ≤ most_instructions → assigns_members (family_at y.choices choice) ≡ true → has_manifest y.decls choice ≡ false
    → manifest_line y (codes "manifest" ∷ decimal choice ∷ []) ≡ Ok (more_manifest y choice)
unfolding manifest_line with_manifest
manifest_again y choice there few assigns free = rw (below_again (length y.choices) choice there few, assigns, free) refl
