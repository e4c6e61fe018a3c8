-- The names of the members of a set, one after another.
use Rattle.std.proofs.Common.{◌≡◌, refl, sym, ◌∙◌, ap, subst, ℕ, suc, ◌+◌, ◌<◌, ◌≤◌, arith, List, [], ◌∷◌, ◌++◌, length, map, true, false, Some, None, Result, Ok, Err, inl, inr, pos, append_assoc, append-nil}
use Rattle.std.specs.Prelude.{filter, slice_get, slice_index_or, codes}
use Rattle.std.specs.List.{join_with_byte}
use Rattle.std.specs.List.Sorted.{IsStrictlyIncreasing}
use Rattle.std.proofs.lemmas.Bool.{cases_lt}
use Rattle.std.proofs.lemmas.Bool.Decides.{nat_tests}
use Rattle.kts_base.specs.Writes.{Log, Wrote, Part}
use Rattle.kts_base.proofs.Pieces.{goes_on, stops, ends}
use Rattle.kts_sets.specs.Sets.{not_below}
use Rattle.kts_sets.specs.SetLaws.{IsSet-rises}
use Rattle.kts_sets.specs.Choices.{IsChoice}
use Rattle.kts_spec.specs.Texts.{comma}
use Rattle.kts_abs.specs.Values.{Mem}
use Rattle.kts_abs.specs.NodeTexts.{range_text, names_at}

-- ---- the members from a number on

is_below : (n x : ℕ) → x < n → not_below n x ≡ false
is_below n x h = grind (arith, nat_tests)

is_kept : (n x : ℕ) → n ≤ x → not_below n x ≡ true
is_kept n x h = grind (arith, nat_tests)

rest_rises : (x : ℕ) (xs : List ℕ) → IsStrictlyIncreasing (x ∷ xs) → IsStrictlyIncreasing xs
rest_rises x xs h k lt =
    let next : suc k + 1 ≡ suc (k + 1) = omega arith in
    subst (λ j. slice_index_or xs k 0 < slice_index_or (x ∷ xs) j 0) next (h (suc k) (omega arith))

all_kept : (n x : ℕ) (xs : List ℕ) → IsStrictlyIncreasing (x ∷ xs) → n ≤ x + 1 → filter (not_below n) xs ≡ xs
all_kept n x [] h l = refl
all_kept n x (y ∷ ys) h l =
    let more : x < y = h 0 (omega arith) in
    rw (is_kept n y (omega (arith, more))) (ap (λ (zs : List ℕ). y ∷ zs) (all_kept n y ys (rest_rises x (y ∷ ys) h) (omega (arith, more))))

pub first_kept : (n m : ℕ) (xs : List ℕ) → slice_get (filter (not_below n) xs) 0 ≡ Some m → n ≤ m
first_kept n m [] e = absurd (let none : None ≡ Some m = e in cc)
first_kept n m (x ∷ xs) e = elim (cases_lt x n) [
  | inl less ↦ first_kept n m xs (rw (is_below n x less) at e)
  | inr more ↦ let first : Some x ≡ Some m = rw (is_kept n x more) at e in let same : x ≡ m = cc in omega (arith, same, more)
]

-- the first of them, and those after it
pub members_from : (n m : ℕ) (xs : List ℕ) → IsStrictlyIncreasing xs → slice_get (filter (not_below n) xs) 0 ≡ Some m → filter (not_below n) xs ≡ m ∷ filter (not_below (m + 1)) xs
members_from n m [] h e = absurd (let none : None ≡ Some m = e in cc)
members_from n m (x ∷ xs) h e = elim (cases_lt x n) [
  | inl less ↦
      let later : slice_get (filter (not_below n) xs) 0 ≡ Some m = rw (is_below n x less) at e in
      let from = first_kept n m xs later in
      let out : x < m + 1 = omega (arith, less, from) in
      rw (is_below n x less, is_below (m + 1) x out) (members_from n m xs (rest_rises x xs h) later)
  | inr more ↦
      let first : Some x ≡ Some m = rw (is_kept n x more) at e in
      let same : x ≡ m = cc in
      let out : x < m + 1 = omega (arith, same) in
      rw (is_kept n x more, is_below (m + 1) x out, all_kept n x xs h (omega (arith, more)), all_kept (m + 1) x xs h (omega (arith, same))) (ap (λ (y : ℕ). y ∷ xs) same)
]

pub all_members : (xs : List ℕ) → filter (not_below 0) xs ≡ xs
all_members [] = refl
all_members (x ∷ xs) = rw (is_kept 0 x (omega arith)) (ap (λ (ys : List ℕ). x ∷ ys) (all_members xs))

none_left : (xs : List ℕ) → slice_get xs 0 ≡ None → xs ≡ []
none_left [] e = refl
none_left (x ∷ xs) e = absurd (let none : Some x ≡ None = e in cc)

-- ---- their names

-- the names, each after a piece: the first after this one, the others after a comma
pub listed : List ℕ → List (List ℕ) → List ℕ
listed before [] = []
listed before (name ∷ names) = before ++ (name ++ listed (comma ∷ []) names)

listed_is : (before name : List ℕ) (names : List (List ℕ)) → listed before (name ∷ names) ≡ before ++ join_with_byte comma (name ∷ names)
unfolding listed
listed_is before name [] = ap (λ (t : List ℕ). before ++ t) (append-nil name)
listed_is before name (next ∷ names) = ap (λ (t : List ℕ). before ++ (name ++ t)) (listed_is (comma ∷ []) next names)

module _ (names : List (List ℕ)) where
  abbrev pub name : ℕ → List ℕ
  name m = slice_index_or names m []

  names_are : (ms : List ℕ) → map name ms ≡ names_at names (map pos ms)
  names_are [] = refl
  names_are (m ∷ ms) = ap (λ (ns : List (List ℕ)). name m ∷ ns) (names_are ms)

  -- what is left to write, after a piece, from a member on
  abbrev pub left_from : List ℕ → ℕ → List ℕ → List ℕ
  left_from before n ms = listed before (map name (filter (not_below n) ms)) ++ codes "}"

  from_brace : (ms : List ℕ) → 1 ≤ length ms → listed (codes "{") (map name ms) ≡ codes "{" ++ join_with_byte comma (names_at names (map pos ms))
  from_brace [] h = absurd (omega arith)
  from_brace (m ∷ ms) h =
      listed_is (codes "{") (name m) (map name ms) ∙ ap (λ (ns : List (List ℕ)). codes "{" ++ join_with_byte comma ns) (names_are (m ∷ ms))

  pub all_left : (ms : List ℕ) → IsChoice ms → left_from (codes "{") 0 ms ≡ range_text names (Mem (map pos ms))
  all_left ms choice =
      ap (λ (xs : List ℕ). listed (codes "{") (map name xs) ++ codes "}") (all_members ms)
      ∙ ap (λ (t : List ℕ). t ++ codes "}") (from_brace ms choice.some)

  pub left_here : (before : List ℕ) (n m : ℕ) (ms : List ℕ) → IsChoice ms → slice_get (filter (not_below n) ms) 0 ≡ Some m → left_from before n ms ≡ (before ++ (name m ++ [])) ++ left_from (comma ∷ []) (m + 1) ms
  unfolding listed
  left_here before n m ms choice e =
      let more = listed (comma ∷ []) (map name (filter (not_below (m + 1)) ms)) in
      ap (λ (xs : List ℕ). listed before (map name xs) ++ codes "}") (members_from n m ms (IsSet-rises ms choice.set) e)
      ∙ append_assoc before (name m ++ more) (codes "}")
      ∙ ap (λ (t : List ℕ). before ++ t) (append_assoc (name m) more (codes "}"))
      ∙ sym (append_assoc before (name m ++ []) (more ++ codes "}") ∙ ap (λ (t : List ℕ). before ++ t) (append_assoc (name m) [] (more ++ codes "}")))

  pub left_end : (before : List ℕ) (n : ℕ) (ms : List ℕ) → slice_get (filter (not_below n) ms) 0 ≡ None → left_from before n ms ≡ codes "}"
  unfolding listed
  left_end before n ms e = ap (λ (xs : List ℕ). listed before (map name xs) ++ codes "}") (none_left (filter (not_below n) ms) e)

-- the last piece of a text
pub finishes : {T E : Type 0} {a b : Log} {left all : List ℕ} → (result : Result T E) (c : Log) (x : List ℕ) → Part a b left all → left ≡ x → Wrote result b c x → Wrote result a c all
finishes (Ok u) c x p e q = ends (goes_on [] p (e ∙ sym (append-nil x)) q) refl
finishes (Err f) c x p e q = stops [] p (e ∙ sym (append-nil x)) q
