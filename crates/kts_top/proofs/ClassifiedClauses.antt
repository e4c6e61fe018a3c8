-- The constraints of a plan, clause by clause.
use Rattle.std.proofs.Common.{◌≡◌, refl, sym, ap, ◌∙◌, ℕ, zero, suc, ◌+◌, ◌<◌, ◌≤◌, arith, List, [], ◌∷◌, ◌++◌, length, map, take, drop, get_or, append_assoc, length-append, add-one, Bool, true, false, nat_eq, Some, slice_get, option_map}
use Rattle.std.specs.List.{enumerate_from, prefix_len, flat_map}
use Rattle.std.specs.Prelude.{MatchOption}
use Rattle.std.proofs.Math.Seq.{drop-cons, take-append_seam, drop-append_seam}
use Rattle.std.proofs.lemmas.Bool.Decides.{nat_tests}
use Rattle.std.proofs.lemmas.List.{drop_all}
use Rattle.std.proofs.lemmas.Option.{slice_get_within, slice_get-get_or, get_or_from_slice_get}
use Rattle.kts_spec.specs.declared.declarations.Family.{Family}
use Rattle.kts_spec.specs.declared.tree.Formula.{Formula}
use Rattle.kts_spec.specs.Schemas.{family_at}
use Rattle.kts_clause.specs.declared.clause.Clause.{Clause}
use Rattle.kts_clause.specs.declared.literal.Literal.{Literal}
use Rattle.kts_plan.specs.declared.definite.Definite.{Definite}
use Rattle.kts_plan.specs.declared.head.Head.{Head}
use Rattle.kts_plan.specs.Heads.{heads_of}
use Rattle.kts_plan.specs.Plans.{definites_of_literal, definites_of_clause}
use Rattle.kts_top.specs.ClassifyTexts.{clause_lines, residual_count, lines_from}

-- the constraints of clauses, the first of this number
abbrev pub definites_from : ℕ → List Clause → List Definite
definites_from k clauses = flat_map definites_of_clause (enumerate_from k clauses)

-- whether a constraint is of the clause of this number
abbrev pub is_of : ℕ → Definite → Bool
is_of n d = nat_eq d.clause n

-- the constraint of a head
abbrev of_head : ℕ → ℕ → Head → Definite
of_head n k h = record { clause = n; literal = k; head = h }

module _ (n : ℕ) where
  same_number : nat_eq n n ≡ true
  same_number = grind (arith, nat_tests)

  heads_count : (k : ℕ) (hs : List Head) (ds : List Definite) → prefix_len (is_of n) (map (of_head n k) hs ++ ds) ≡ length (map (of_head n k) hs) + prefix_len (is_of n) ds
  heads_count k [] ds = let none : prefix_len (is_of n) ds ≡ 0 + prefix_len (is_of n) ds = omega arith in none
  heads_count k (h ∷ hs) ds = let rest = heads_count k hs ds in rw same_number (omega arith)

  -- a clause's own constraints are counted
  literals_count : (k : ℕ) (ls : List Literal) (ds : List Definite)
      → prefix_len (is_of n) (flat_map (definites_of_literal n) (enumerate_from k ls) ++ ds) ≡ length (flat_map (definites_of_literal n) (enumerate_from k ls)) + prefix_len (is_of n) ds
  literals_count k [] ds = let none : prefix_len (is_of n) ds ≡ 0 + prefix_len (is_of n) ds = omega arith in none
  literals_count k (l ∷ ls) ds =
      let here : List Definite = definites_of_literal n (k, l) in
      let later : List Definite = flat_map (definites_of_literal n) (enumerate_from (k + 1) ls) in
      let first = heads_count k (heads_of l) (later ++ ds) in
      let rest = literals_count (k + 1) ls ds in
      let long = length-append here later in
      ap (prefix_len (is_of n)) (append_assoc here later ds) ∙ omega (arith, first, rest, long)

  module _ (m : ℕ) (above : n < m) where
    other_number : nat_eq m n ≡ false
    other_number = grind (arith, nat_tests, above)

    heads_stop : (k : ℕ) (hs : List Head) (ds : List Definite) → prefix_len (is_of n) ds ≡ 0 → prefix_len (is_of n) (map (of_head m k) hs ++ ds) ≡ 0
    heads_stop k [] ds stop = stop
    heads_stop k (h ∷ hs) ds stop = rw other_number refl

    literals_stop : (k : ℕ) (ls : List Literal) (ds : List Definite) → prefix_len (is_of n) ds ≡ 0 → prefix_len (is_of n) (flat_map (definites_of_literal m) (enumerate_from k ls) ++ ds) ≡ 0
    literals_stop k [] ds stop = stop
    literals_stop k (l ∷ ls) ds stop =
        let here : List Definite = definites_of_literal m (k, l) in
        let later : List Definite = flat_map (definites_of_literal m) (enumerate_from (k + 1) ls) in
        ap (prefix_len (is_of n)) (append_assoc here later ds) ∙ heads_stop k (heads_of l) (later ++ ds) (literals_stop (k + 1) ls ds stop)

  -- and those of later clauses aren't
  later_stop : (m : ℕ) → n < m → (cs : List Clause) → prefix_len (is_of n) (definites_from m cs) ≡ 0
  later_stop m above [] = refl
  later_stop m above (c ∷ cs) = literals_stop m above 0 c.literals (definites_from (m + 1) cs) (later_stop (m + 1) (omega (arith, above)) cs)

  own_count : (c : Clause) (cs : List Clause) → prefix_len (is_of n) (definites_of_clause (n, c) ++ definites_from (n + 1) cs) ≡ length (definites_of_clause (n, c))
  own_count c cs =
      let own = literals_count 0 c.literals (definites_from (n + 1) cs) in
      let stop = later_stop (n + 1) (omega arith) cs in
      omega (arith, own, stop)

-- the items from a place on
drop_at : {X : Type 0} (xs : List X) (k : ℕ) (x : X) → slice_get xs k ≡ Some x → drop k xs ≡ x ∷ drop (k + 1) xs
drop_at xs k x e =
    rw add-one (drop-cons xs k x (slice_get_within xs k x e) ∙ ap (λ y. y ∷ drop (suc k) xs) (get_or_from_slice_get xs k x x e))

-- at a clause, what is left of the constraints begins with its own
module _ (cs : List Clause) (k : ℕ) (c : Clause) (there : slice_get cs k ≡ Some c) (rest : List Definite) (left : rest ≡ definites_from k (drop k cs)) where
  parted : rest ≡ definites_of_clause (k, c) ++ definites_from (k + 1) (drop (k + 1) cs)
  parted = left ∙ ap (definites_from k) (drop_at cs k c there)

  pub own_long : prefix_len (is_of k) rest ≡ length (definites_of_clause (k, c))
  own_long = ap (prefix_len (is_of k)) parted ∙ own_count k c (drop (k + 1) cs)

  pub own_is : (count : ℕ) → count ≡ prefix_len (is_of k) rest → take count rest ≡ definites_of_clause (k, c)
  own_is count e =
      let later = definites_from (k + 1) (drop (k + 1) cs) in
      rw (e ∙ own_long, parted) (take-append_seam (definites_of_clause (k, c)) later)

  pub later_is : (count : ℕ) → count ≡ prefix_len (is_of k) rest → drop count rest ≡ definites_from (k + 1) (drop (k + 1) cs)
  later_is count e =
      let later = definites_from (k + 1) (drop (k + 1) cs) in
      rw (e ∙ own_long, parted) (drop-append_seam (definites_of_clause (k, c)) later)

-- at a clause, what is left of the lines begins with its own
pub lines_here : (formulas : List (List ℕ × Formula)) (choices : List Family) (cs : List Clause) (k : ℕ) (c : Clause) → slice_get cs k ≡ Some c → (definites residuals : ℕ) (own : List Definite) (count more : ℕ)
    → own ≡ definites_of_clause (k, c) → count ≡ length own → more ≡ residual_count own
    → lines_from formulas choices k definites residuals (drop k cs)
    ≡ clause_lines formulas choices definites residuals c own ++ lines_from formulas choices (k + 1) (definites + count) (residuals + more) (drop (k + 1) cs)
lines_here formulas choices cs k c there definites residuals own count more e f g = rw (f, g, e) (ap (lines_from formulas choices k definites residuals) (drop_at cs k c there))

-- the name of a choice, as it is read
pub name_is : (choices : List Family) (x : ℕ) (name : List ℕ) → MatchOption (option_map (λ (family : Family). family.name) (slice_get choices x)) (name ≡ []) (λ bytes. name ≡ bytes) → name ≡ (family_at choices x).name
name_is [] x name h = h
name_is (f ∷ fs) zero name h = h
name_is (f ∷ fs) (suc x) name h = name_is fs x name h

-- the item that an index of a list gives
pub item_there : {X : Type 0} (xs : List X) (k : ℕ) (x : X) → k < length xs → x ≡ get_or xs k x → slice_get xs k ≡ Some x
item_there xs k x h e = slice_get-get_or xs k x h ∙ ap (λ y. Some y) (sym e)

-- items that are numbered on from the first
module _ {X : Type 0} (f : ℕ × X → List ℕ) (first : ℕ) (xs : List X) (k : ℕ) where
  pub numbered_here : (x : X) → slice_get xs k ≡ Some x → flat_map f (enumerate_from (first + k) (drop k xs)) ≡ f (first + k, x) ++ flat_map f (enumerate_from (first + (k + 1)) (drop (k + 1) xs))
  numbered_here x e =
      let n : first + k + 1 ≡ first + (k + 1) = omega arith in
      ap (λ l. flat_map f (enumerate_from (first + k) l)) (drop_at xs k x e) ∙ ap (λ m. f (first + k, x) ++ flat_map f (enumerate_from m (drop (k + 1) xs))) n

  pub numbered_end : length xs ≤ k → flat_map f (enumerate_from (first + k) (drop k xs)) ≡ []
  numbered_end h = ap (λ l. flat_map f (enumerate_from (first + k) l)) (drop_all k xs h)

-- the clause that an index of a plan's clauses gives
pub clause_there : (cs items : List Clause) (k : ℕ) (c : Clause) → items ≡ cs → k < length items → c ≡ get_or items k c → slice_get cs k ≡ Some c
clause_there cs items k c e h is = ap (λ (l : List Clause). slice_get l k) (sym e) ∙ item_there items k c h is
