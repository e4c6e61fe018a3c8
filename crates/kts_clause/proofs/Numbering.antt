-- Clauses that are numbered one after another.
use Rattle.std.proofs.Common.{◌≡◌, sym, ap, ◌∙◌, ℕ, ◌+◌, ◌-◌, ◌<◌, ◌≤◌, ◌^◌, List, [], ◌∷◌, ◌++◌, length, take, append_assoc, append-nil, arith, length-append}
use Rattle.std.specs.Prelude.{flat_map, slice_index_or}
use Rattle.std.specs.List.{enumerate_from}
use Rattle.std.proofs.lemmas.List.{length-map, map-append, take_more}
use Rattle.std.proofs.lemmas.List.FromFn.{length-enumerate_from}
use Rattle.std.proofs.lemmas.List.Folds.{length-flat_map-take}
use Rattle.std.proofs.lemmas.Grind.{flat_map-append}
use Rattle.kts_spec.specs.declared.tree.Formula.{Formula}
use Rattle.kts_clause.specs.Clauses.{Disjunction, numbered, numbered_from}
use Rattle.kts_clause.specs.declared.clause.Clause.{Clause}

enumerated : {X : Type 0} (xs ys : List X) (k : ℕ) → enumerate_from k (xs ++ ys) ≡ enumerate_from k xs ++ enumerate_from (k + length xs) ys
enumerated [] ys k = let none : k ≡ k + 0 = omega arith in ap (λ n. enumerate_from n ys) none
enumerated (x ∷ xs) ys k =
    let more : k + 1 + length xs ≡ k + length (x ∷ xs) = omega arith in
    ap (λ l. (k, x) ∷ l) (enumerated xs ys (k + 1) ∙ ap (λ n. enumerate_from (k + 1) xs ++ enumerate_from n ys) more)

pub numbered_append : (formula : ℕ) (xs ys : List Disjunction) (k : ℕ) → numbered_from formula k (xs ++ ys) ≡ numbered_from formula k xs ++ numbered_from formula (k + length xs) ys
numbered_append formula xs ys k = rw (enumerated xs ys k) (map-append (numbered formula) (enumerate_from k xs) (enumerate_from (k + length xs) ys))

pub numbered_length : (formula : ℕ) (xs : List Disjunction) (k : ℕ) → length (numbered_from formula k xs) ≡ length xs
numbered_length formula xs k = length-map (enumerate_from k xs) (numbered formula) ∙ length-enumerate_from k xs

-- clauses after some others, of which so many are of other formulas
abbrev after : ℕ → ℕ → List Clause → List Disjunction → List Clause
after formula first before xs = before ++ numbered_from formula (length before - first) xs

pub after_append : (formula first : ℕ) (before : List Clause) (xs ys : List Disjunction) → first ≤ length before → after formula first (after formula first before xs) ys ≡ after formula first before (xs ++ ys)
after_append formula first before xs ys le =
    let l : length (after formula first before xs) - first ≡ length before - first + length xs =
    let long = length-append before (numbered_from formula (length before - first) xs) in
    let many = numbered_length formula xs (length before - first) in
    omega (arith, long, many) in
    ap (λ n. after formula first before xs ++ numbered_from formula n ys) l
    ∙ append_assoc before (numbered_from formula (length before - first) xs) (numbered_from formula (length before - first + length xs) ys)
    ∙ ap (λ l. before ++ l) (sym (numbered_append formula xs ys (length before - first)))

-- the clauses of one part more
pub part_added : (f : Formula → List Disjunction) (formula first : ℕ) (before clauses : List Clause) (parts : List Formula) (i : ℕ) (part : Formula) → first ≤ length before
    → i < length parts → part ≡ slice_index_or parts i part → clauses ≡ after formula first before (flat_map f (take i parts))
    → after formula first clauses (f part) ≡ after formula first before (flat_map f (take (i + 1) parts))
part_added f formula first before clauses parts i part le lt is e =
    let more : flat_map f (take (i + 1) parts) ≡ flat_map f (take i parts) ++ f part =
    ap (flat_map f) (take_more parts i part lt ∙ ap (λ x. take i parts ++ x ∷ []) (sym is)) ∙ flat_map-append f (take i parts) (part ∷ [])
    ∙ ap (λ l. flat_map f (take i parts) ++ l) (append-nil (f part)) in
    ap (λ cs. after formula first cs (f part)) e ∙ after_append formula first before (flat_map f (take i parts)) (f part) le ∙ ap (after formula first before) (sym more)

-- they begin where all do, and there is room for them
pub record HasRoom (first : ℕ) (clauses : List Clause) (ds : List Disjunction) : Type 0 where
  pub begun : first ≤ length clauses
  pub room : length clauses + length ds < 2 ^ 32 + first

pub part_fits : (f : Formula → List Disjunction) (formula first : ℕ) (before clauses : List Clause) (parts : List Formula) (i : ℕ) (part : Formula) → first ≤ length before
    → i < length parts → part ≡ slice_index_or parts i part → clauses ≡ after formula first before (flat_map f (take i parts))
    → length before + length (flat_map f parts) < 2 ^ 32 + first → HasRoom first clauses (f part)
part_fits f formula first before clauses parts i part le lt is e few =
    let l = length-append before (numbered_from formula (length before - first) (flat_map f (take i parts))) in
    let n = numbered_length formula (flat_map f (take i parts)) (length before - first) in
    let fits = length-flat_map-take f parts i part lt in
    let same = ap (λ x. length (f x)) is in
    let long = ap length e in
    record { begun = omega (arith, l, n, long); room = omega (arith, l, n, fits, same, long, few) }
