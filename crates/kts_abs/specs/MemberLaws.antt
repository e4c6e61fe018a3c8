-- The order of sets is that of their members.
use Rattle.std.proofs.Common.{◌≡◌, refl, sym, ◌∙◌, ap, inl, inr, ℕ, ◌<◌, ◌≤◌, true, false, nat_eq, List, [], ◌∷◌, length, Some, arith}
use Rattle.std.proofs.lemmas.Bool.{eqb-true, eq-eqb, or_cases, or_left, or_right, true≢false}
use Rattle.kts_sets.specs.Sets.{elem, IsSet}
use Rattle.kts_sets.specs.SetLaws.{IsSet-rises}
use Rattle.kts_sets.specs.Choices.{IsChoice, within}
use Rattle.kts_sets.specs.ChoiceLaws.{within-Includes, Includes-within}
use Rattle.kts_abs.specs.Abstraction.{Only, IsOperand}
use Rattle.kts_abs.specs.Members.{has_member, single_member}

-- the first is a member
pub elem-head : (m : ℕ) (ms : List ℕ) → elem m (m ∷ ms) ≡ true
unfolding elem
elem-head m ms = or_left (nat_eq m m) (elem m ms) (eq-eqb m m refl)

-- a member of the rest is one of the whole
pub elem-rest : (m n : ℕ) (ms : List ℕ) → elem m ms ≡ true → elem m (n ∷ ms) ≡ true
unfolding elem
elem-rest m n ms h = or_right (nat_eq m n) (elem m ms) h

-- a set of one has no other member
pub elem-one : (m n : ℕ) → elem m (n ∷ []) ≡ true → m ≡ n
unfolding elem
elem-one m n h = elim (or_cases (nat_eq m n) false h) [ inl e ↦ eqb-true m n e | inr z ↦ absurd (true≢false (sym z)) ]

-- a list that is not empty has a member
some_member : (ms : List ℕ) → 1 ≤ length ms → (m : ℕ) × (has_member ms m ≡ true)
some_member [] l = absurd (omega arith)
some_member (m ∷ ms) l = (m, elem-head m ms)

-- a single member is the only one
single_holds : (ms : List ℕ) (m : ℕ) → single_member ms ≡ Some m → Only has_member m ms
single_holds [] m e = cc
single_holds (n ∷ []) m e =
    let s : n ≡ m = cc in
    record { allowed = ap (λ z. elem z (n ∷ [])) (sym s) ∙ elem-head n []; alone = λ x h. elem-one x n h ∙ s }
single_holds (n ∷ (x ∷ ms)) m e = cc

-- the only member is single
single_comes : (ms : List ℕ) (m : ℕ) → IsSet ms → Only has_member m ms → single_member ms ≡ Some m
unfolding elem
single_comes [] m s o = absurd (true≢false (sym o.allowed))
single_comes (n ∷ []) m s o = ap (λ z. Some z) (o.alone n (elem-head n []))
single_comes (n ∷ (x ∷ ms)) m s o =
    let first : n ≡ m = o.alone n (elem-head n (x ∷ ms)) in
    let second : x ≡ m = o.alone x (elem-rest x n (x ∷ ms) (elem-head x ms)) in
    let rises : n < x = IsSet-rises (n ∷ (x ∷ ms)) s 0 (omega arith) in
    absurd (omega arith)

pub choices : IsOperand IsChoice has_member within single_member
choices = record {
  solid = λ ms v. some_member ms v.some;
  order = λ ms ns u v. (within-Includes ms ns, Includes-within ms ns);
  only = λ ms m v. (single_holds ms m, single_comes ms m v.set);
}
