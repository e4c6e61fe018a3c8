-- What the abstract values of terms and formulas keep.
use Rattle.std.specs.Prelude.{◌≡◌, true, ℕ, ℤ, List}
use Rattle.kts_spec.specs.declared.tree.Term.{Term}
use Rattle.kts_spec.specs.declared.tree.Formula.{Formula}
use Rattle.kts_spec.specs.Meaning.{value_on, truth_on}
use Rattle.kts_spec.specs.Related.{Pairs}
use Rattle.kts_spec.specs.Worlds.{World}
use Rattle.kts_abs.specs.Abstraction.{Finer}
use Rattle.kts_abs.specs.InSpace.{value_in, truth_in}
use Rattle.kts_abs.specs.Spaces.{holds, IsAbove}
use Rattle.kts_abs.specs.Truth.{may_be, certain}
use Rattle.kts_abs.specs.Values.{Abs, allows, Refines, IsOne}

-- in a space, what a schedule in it gives is allowed
pub record ValuesAreSound : Type 0 where
  pub value : (w : World) (s : List Abs) (schedule : List ℤ) → holds s schedule ≡ true
      → (a : Term) (vars : List ℕ) → allows (value_in w s a vars) (value_on w schedule a vars) ≡ true
  pub truth : (w : World) (s : List Abs) (schedule : List ℤ) → holds s schedule ≡ true
      → (p : Formula) (vars : List ℕ) → may_be (truth_in w s p vars) (truth_on w schedule p vars) ≡ true

-- in a space that knows more, less is allowed
pub record ValuesAreMonotone : Type 0 where
  pub value : (w : World) (s t : List Abs) → IsAbove s t
      → (a : Term) (vars : List ℕ) → Refines (value_in w t a vars) (value_in w s a vars)
  pub truth : (w : World) (s t : List Abs) → IsAbove s t
      → (p : Formula) (vars : List ℕ) → Finer may_be (truth_in w t p vars) (truth_in w s p vars)

-- in a space of one schedule, what it gives is allowed alone
pub record ValuesAreExact : Type 0 where
  pub value : (w : World) (t : List Abs) (schedule : List ℤ) → Pairs IsOne schedule t
      → (a : Term) (vars : List ℕ) → IsOne (value_on w schedule a vars) (value_in w t a vars)
  pub truth : (w : World) (t : List Abs) (schedule : List ℤ) → Pairs IsOne schedule t
      → (p : Formula) (vars : List ℕ) → truth_in w t p vars ≡ certain (truth_on w schedule p vars)
