-- Instructions that make one operand of those on the stack.
use Rattle.std.proofs.Common.{◌≡◌, ℕ, ◌+◌, ◌<◌, ◌≤◌, List, [], ◌∷◌, length, Some, refl, ap, ◌∙◌, arith}
use Rattle.std.specs.Prelude.{ℤ}
use Rattle.std.specs.Ordering.{int_eq}
use Rattle.kts_abs.specs.declared.truth.Tri.{Tri}
use Rattle.kts_abs.specs.Members.{same_of}
use Rattle.kts_abs.specs.Truth.{and_of, or_of, not_of}
use Rattle.kts_abs.specs.Windows.{Window, fitted, difference_of, product_of, least_of, greatest_of, le_of, eq_of}
use Rattle.kts_code.specs.declared.instructions.Instr.{Instr}
use Rattle.kts_code.specs.declared.instructions.Instr.TheVariants.{Sub, Mul, Min, Max, Le, Eq, Same, And, Or, Not}
use Rattle.kts_code.specs.Operands.{push_fitted}
use Rattle.kts_code.specs.Setups.{Setup, world_in}
use Rattle.kts_code.specs.States.{Operand, Win, Set, Truth, Register}
use Rattle.kts_spec.specs.TypedValues.{InScope}
use Rattle.kts_spec.specs.Worlds.{World}
use Rattle.kts_emit.specs.Fragments.{Fragment, operation}
use Rattle.kts_emit.specs.Weights.{sequence_weight}
use Rattle.kts_emit.proofs.Contexts.{Context, core_at, pushed}
use Rattle.kts_emit.proofs.Variables.{in_scope}
use Rattle.kts_emit.proofs.Operations.{Pushes, Makes, makes_one, operation_pushes}
use Rattle.kts_emit.proofs.Accesses.{index_equals}

module _ (setup : Setup) (r : Context) where
  abbrev w : World
  w = world_in setup

  abbrev Over : Fragment → ℕ → ℕ → List ℕ → (List ℕ → Operand) → Type 0
  Over = Pushes setup r

  -- two codes and an instruction
  pub two_push : (a b : Fragment) (na nb : ℕ) (va vb value : List ℕ → Operand) (i : Instr) (inner need : ℕ) (scope : List ℕ)
      → Over a na inner scope va → Over b nb inner scope vb
      → Makes setup r (i ∷ []) 1 scope (va ∷ vb ∷ []) value → inner + 1 ≤ need → 1 ≤ need
      → Over (operation (a ∷ b ∷ []) (i ∷ [])) (sequence_weight (na ∷ nb ∷ []) + 1) need scope value
  two_push a b na nb va vb value i inner need scope ha hb ends le some =
      operation_pushes setup r (a ∷ b ∷ []) (na ∷ nb ∷ []) (va ∷ vb ∷ []) (i ∷ []) 1 inner need scope value (ha, (hb, tt)) ends (omega arith) some

  -- instructions on two windows
  abbrev pub wins : (List ℕ → Window) → List ℕ → Operand
  wins a vars = Win (a vars)

  abbrev pub truths : (List ℕ → Tri) → List ℕ → Operand
  truths t vars = Truth (t vars)

  pub least_makes : (scope : List ℕ) (a b : List ℕ → Window)
      → Makes setup r (Min ∷ []) 1 scope (wins a ∷ wins b ∷ []) (λ vars. Win (least_of (a vars) (b vars)))
  least_makes scope a b =
      makes_one setup r Min refl scope (wins a ∷ wins b ∷ []) (λ vars. Win (least_of (a vars) (b vars)))
      (λ vars p stack registers h less. pushed setup.code.stack r p (Win (b vars) ∷ (Win (a vars) ∷ stack)) stack registers
      (Win (least_of (a vars) (b vars))) less)

  pub greatest_makes : (scope : List ℕ) (a b : List ℕ → Window)
      → Makes setup r (Max ∷ []) 1 scope (wins a ∷ wins b ∷ []) (λ vars. Win (greatest_of (a vars) (b vars)))
  greatest_makes scope a b =
      makes_one setup r Max refl scope (wins a ∷ wins b ∷ []) (λ vars. Win (greatest_of (a vars) (b vars)))
      (λ vars p stack registers h less. pushed setup.code.stack r p (Win (b vars) ∷ (Win (a vars) ∷ stack)) stack registers
      (Win (greatest_of (a vars) (b vars))) less)

  pub le_makes : (scope : List ℕ) (a b : List ℕ → Window)
      → Makes setup r (Le ∷ []) 1 scope (wins a ∷ wins b ∷ []) (λ vars. Truth (le_of (a vars) (b vars)))
  le_makes scope a b = makes_one setup r Le refl scope (wins a ∷ wins b ∷ []) (λ vars. Truth (le_of (a vars) (b vars)))
      (λ vars p stack registers h less. pushed setup.code.stack r p (Win (b vars) ∷ (Win (a vars) ∷ stack)) stack registers
      (Truth (le_of (a vars) (b vars))) less)

  pub eq_makes : (scope : List ℕ) (a b : List ℕ → Window)
      → Makes setup r (Eq ∷ []) 1 scope (wins a ∷ wins b ∷ []) (λ vars. Truth (eq_of (a vars) (b vars)))
  eq_makes scope a b = makes_one setup r Eq refl scope (wins a ∷ wins b ∷ []) (λ vars. Truth (eq_of (a vars) (b vars)))
      (λ vars p stack registers h less. pushed setup.code.stack r p (Win (b vars) ∷ (Win (a vars) ∷ stack)) stack registers
      (Truth (eq_of (a vars) (b vars))) less)

  pub same_makes : (scope : List ℕ) (i : ℕ) (a b : List ℕ → List ℤ)
      → Makes setup r (Same ∷ []) 1 scope ((λ vars. Set i (a vars)) ∷ (λ vars. Set i (b vars)) ∷ [])
      (λ vars. Truth (same_of int_eq (a vars) (b vars)))
  same_makes scope i a b =
      makes_one setup r Same refl scope ((λ vars. Set i (a vars)) ∷ (λ vars. Set i (b vars)) ∷ []) (λ vars. Truth (same_of int_eq (a vars) (b vars)))
      (λ vars p stack registers h less.
      rw (index_equals i) (pushed setup.code.stack r p (Set i (b vars) ∷ (Set i (a vars) ∷ stack)) stack registers
      (Truth (same_of int_eq (a vars) (b vars))) less))

  pub and_makes : (scope : List ℕ) (a b : List ℕ → Tri)
      → Makes setup r (And ∷ []) 1 scope (truths a ∷ truths b ∷ []) (λ vars. Truth (and_of (a vars) (b vars)))
  and_makes scope a b = makes_one setup r And refl scope (truths a ∷ truths b ∷ []) (λ vars. Truth (and_of (a vars) (b vars)))
      (λ vars p stack registers h less. pushed setup.code.stack r p (Truth (b vars) ∷ (Truth (a vars) ∷ stack)) stack registers
      (Truth (and_of (a vars) (b vars))) less)

  pub or_makes : (scope : List ℕ) (a b : List ℕ → Tri)
      → Makes setup r (Or ∷ []) 1 scope (truths a ∷ truths b ∷ []) (λ vars. Truth (or_of (a vars) (b vars)))
  or_makes scope a b = makes_one setup r Or refl scope (truths a ∷ truths b ∷ []) (λ vars. Truth (or_of (a vars) (b vars)))
      (λ vars p stack registers h less. pushed setup.code.stack r p (Truth (b vars) ∷ (Truth (a vars) ∷ stack)) stack registers
      (Truth (or_of (a vars) (b vars))) less)

  pub not_makes : (scope : List ℕ) (a : List ℕ → Tri) → Makes setup r (Not ∷ []) 1 scope (truths a ∷ []) (λ vars. Truth (not_of (a vars)))
  not_makes scope a = makes_one setup r Not refl scope (truths a ∷ []) (λ vars. Truth (not_of (a vars)))
      (λ vars p stack registers h less. pushed setup.code.stack r p (Truth (a vars) ∷ stack) stack registers (Truth (not_of (a vars))) less)

  pub not_pushes : (a : Fragment) (na need : ℕ) (scope : List ℕ) (t : List ℕ → Tri) → Over a na need scope (truths t) → 1 ≤ need
      → Over (operation (a ∷ []) (Not ∷ [])) (sequence_weight (na ∷ []) + 1) need scope (λ vars. Truth (not_of (t vars)))
  not_pushes a na need scope t h some =
      operation_pushes setup r (a ∷ []) (na ∷ []) (truths t ∷ []) (Not ∷ []) 1 need need scope (λ vars. Truth (not_of (t vars))) (h, tt)
      (not_makes scope t) (omega arith) some

  -- an instruction on two windows whose result fits
  pub fitted_pushed : (p : ℕ) (full stack : List Operand) (registers : List Register) (v : Window) → fitted v ≡ Some v
      → length stack < setup.code.stack
      → push_fitted setup.code.stack (core_at r p full registers) (fitted v) stack ≡ core_at r (p + 1) (Win v ∷ stack) registers
  fitted_pushed p full stack registers v e less = ap (λ o. push_fitted setup.code.stack (core_at r p full registers) o stack) e
      ∙ pushed setup.code.stack r p full stack registers (Win v) less

  pub sub_makes : (scope : List ℕ) (a b : List ℕ → Window)
      → ((vars : List ℕ) → InScope w scope vars → fitted (difference_of (a vars) (b vars)) ≡ Some (difference_of (a vars) (b vars)))
      → Makes setup r (Sub ∷ []) 1 scope (wins a ∷ wins b ∷ []) (λ vars. Win (difference_of (a vars) (b vars)))
  sub_makes scope a b fits =
      makes_one setup r Sub refl scope (wins a ∷ wins b ∷ []) (λ vars. Win (difference_of (a vars) (b vars)))
      (λ vars p stack registers h less. fitted_pushed p (Win (b vars) ∷ (Win (a vars) ∷ stack)) stack registers (difference_of (a vars) (b vars))
      (fits vars (in_scope w scope vars registers h)) less)

  pub mul_makes : (scope : List ℕ) (a b : List ℕ → Window)
      → ((vars : List ℕ) → InScope w scope vars → fitted (product_of (a vars) (b vars)) ≡ Some (product_of (a vars) (b vars)))
      → Makes setup r (Mul ∷ []) 1 scope (wins a ∷ wins b ∷ []) (λ vars. Win (product_of (a vars) (b vars)))
  mul_makes scope a b fits =
      makes_one setup r Mul refl scope (wins a ∷ wins b ∷ []) (λ vars. Win (product_of (a vars) (b vars)))
      (λ vars p stack registers h less. fitted_pushed p (Win (b vars) ∷ (Win (a vars) ∷ stack)) stack registers (product_of (a vars) (b vars))
      (fits vars (in_scope w scope vars registers h)) less)
