-- Which arguments are variables of a prefix, and which lists of them are the same.
use Rattle.std.proofs.Common.{◌≡◌, refl, sym, ap, ◌∙◌, subst, ℕ, zero, suc, ◌+◌, ◌<◌, ◌≤◌, List, [], ◌∷◌, length, drop, get_or, Bool, true, false, ◌&&◌, Option, Some, None, nat_lt, if◌then◌else◌, arith}
use Rattle.std.proofs.lemmas.Bool.{and_parts, lt-ltb}
use Rattle.std.proofs.lemmas.Bool.Decides.{nat_tests}
use Rattle.kts_spec.specs.declared.tree.Term.{Term, roll-Term}
use Rattle.kts_spec.specs.declared.tree.Term.TheVariants as term
use Rattle.kts_spec.proofs.Conditions.{same_number}
use Rattle.kts_spec.specs.declared.tree.Formula.{Formula}
use Rattle.kts_spec.specs.declared.tree.Formula.TheOpen as one
use Rattle.kts_spec.specs.declared.tree.Formula.TheFolds.{ind-Term, map-Term, fold-roll-Term}
use Rattle.kts_plan.specs.TaskReads.{variable_step, variable_of, one_of_first}
use Rattle.kts_classify.specs.PlanPatterns.{same_argument, same_arguments}

variable_of-roll : (x : one.Term-F Formula Term) → variable_of (roll-Term x) ≡ variable_step (map-Term Formula Term (Unit {0}) (Option ℕ) (λ _. tt) variable_of x)
unfolding variable_of
variable_of-roll x = fold-roll-Term (Unit {0}) (Option ℕ) (λ _. tt) variable_step x

pub variable_of-Var : (k : ℕ) → variable_of (term.Var k) ≡ Some k
variable_of-Var k = ap variable_of (sym (term.rolls-Var k)) ∙ variable_of-roll (one.Var k)

abbrev pub NoVariable : Term → Type 0
NoVariable t = (k : ℕ) → t ≡ term.Var k → ⊥

other_step : (x : one.Term-F Formula Term) → NoVariable (roll-Term x) → variable_of (roll-Term x) ≡ None
other_step (one.Var k) h = absurd (h k (term.rolls-Var k))
other_step x h = variable_of-roll x

pub variable_of-other : (t : Term) → NoVariable t → variable_of t ≡ None
variable_of-other t = ind-Term (λ _. Unit {0}) (λ t. NoVariable t → variable_of t ≡ None) (λ x y e. tt) (λ x y e. subst (λ z. NoVariable (roll-Term z) → variable_of (roll-Term z) ≡ None) e (other_step (map-Term _ _ Formula Term (λ p. p.0) (λ p. p.0) y))) t

pub one_of_some : (n k : ℕ) → k < n → one_of_first n (Some k) ≡ Some k
one_of_some n k lt = ap (λ b. if b then Some k else None) (lt-ltb k n lt)

not_below : (n k : ℕ) → n ≤ k → nat_lt k n ≡ false
not_below n k le = grind (arith, nat_tests)

pub one_of_none : (n k : ℕ) → n ≤ k → one_of_first n (Some k) ≡ None
one_of_none n k le = ap (λ b. if b then Some k else None) (not_below n k le)

-- ---- the same arguments

pub differ : (xs ys : List (Option ℕ)) → (length xs ≡ length ys → ⊥) → same_arguments xs ys ≡ false
differ [] [] h = absurd (h refl)
differ [] (y ∷ ys) h = refl
differ (x ∷ xs) [] h = refl
differ (x ∷ xs) (y ∷ ys) h = by (same_argument x y) (differ xs ys (λ e. h (ap suc e)))
  where
    by : (b : Bool) → same_arguments xs ys ≡ false → (b && same_arguments xs ys) ≡ false
    by true e = e
    by false e = refl

pub same_step : (xs ys : List (Option ℕ)) (k : ℕ) (a : Option ℕ) → k < length xs → k < length ys → a ≡ get_or xs k a
    → same_arguments (drop k xs) (drop k ys) ≡ (same_argument a (get_or ys k None) && same_arguments (drop (k + 1) xs) (drop (k + 1) ys))
same_step [] ys k a lt lt' e = absurd (omega arith)
same_step (x ∷ xs) [] k a lt lt' e = absurd (omega arith)
same_step (x ∷ xs) (y ∷ ys) zero a lt lt' e = ap (λ z. same_argument z y && same_arguments xs ys) (sym e)
same_step (x ∷ xs) (y ∷ ys) (suc k) a lt lt' e =
    let m : suc (k + 1) ≡ suc k + 1 = omega arith in
    same_step xs ys k a (omega arith) (omega arith) e ∙ ap (λ i. same_argument a (get_or ys k None) && same_arguments (drop i (x ∷ xs)) (drop i (y ∷ ys))) m

drop_past : {X : Type 0} (xs : List X) (k : ℕ) → length xs ≤ k → drop k xs ≡ []
drop_past [] zero h = refl
drop_past [] (suc k) h = refl
drop_past (x ∷ xs) zero h = absurd (omega arith)
drop_past (x ∷ xs) (suc k) h = drop_past xs k (omega arith)

pub same_end : (xs ys : List (Option ℕ)) (k : ℕ) → length xs ≤ k → length ys ≤ k → same_arguments (drop k xs) (drop k ys) ≡ true
same_end xs ys k h g = rw (drop_past xs k h, drop_past ys k g) refl

-- arguments that are the same are equal
pub same_is : (xs ys : List (Option ℕ)) → same_arguments xs ys ≡ true → xs ≡ ys
same_is [] [] h = refl
same_is [] (y ∷ ys) h = cc
same_is (x ∷ xs) [] h = cc
same_is (x ∷ xs) (y ∷ ys) h =
    let both = and_parts (same_argument x y) (same_arguments xs ys) h in
    ap (λ z. z ∷ xs) (one x y both.0) ∙ ap (λ l. y ∷ l) (same_is xs ys both.1)
  where
    one : (a b : Option ℕ) → same_argument a b ≡ true → a ≡ b
    one None None e = refl
    one None (Some m) e = cc
    one (Some k) None e = cc
    one (Some k) (Some m) e = ap (λ n. Some n) (same_number k m e)
