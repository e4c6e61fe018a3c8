-- Operands that an instruction joins, each to what is before it.
use Rattle.std.proofs.Common.{◌≡◌, ℕ, ◌+◌, ◌<◌, ◌≤◌, List, [], ◌∷◌, ◌++◌, length, Some, true, sym, ap, ◌∙◌, arith, length-append, fold}
use Rattle.std.specs.Prelude.{ℤ, pos, ◌+ℤ◌}
use Rattle.std.proofs.lemmas.Int.{ints}
use Rattle.kts_abs.specs.declared.truth.Tri.{Tri}
use Rattle.kts_abs.specs.InSpace.{on_windows}
use Rattle.kts_abs.specs.Truth.{and_of, or_of}
use Rattle.kts_abs.specs.Values.{Abs, Win as window_value, window_of}
use Rattle.kts_abs.specs.Windows.{Window, fitted, sum_of}
use Rattle.kts_base.specs.Limits.{most_variables}
use Rattle.kts_code.specs.declared.instructions.Instr.{Instr}
use Rattle.kts_code.specs.declared.instructions.Instr.TheVariants.{Add, And, Or}
use Rattle.kts_code.specs.Machine.{act}
use Rattle.kts_code.specs.Setups.{Setup, world_in}
use Rattle.kts_code.specs.States.{Operand, Win, Truth, Register}
use Rattle.kts_code.proofs.Places.{HasAt, has_front, has_back}
use Rattle.kts_code.proofs.Runs.{is_inner}
use Rattle.kts_spec.specs.Domain.{at_each}
use Rattle.kts_spec.specs.TypedValues.{InScope}
use Rattle.kts_spec.specs.Worlds.{World}
use Rattle.kts_emit.specs.Fragments.{Fragment, chain_rest, chain}
use Rattle.kts_emit.specs.Weights.{chain_rest_weight, chain_weight}
use Rattle.kts_emit.specs.Pushes.{HasVariables}
use Rattle.kts_emit.proofs.Contexts.{Context, core_at, at, Leads, next, ended, leaving, stays, steps_to, pushed}
use Rattle.kts_emit.proofs.Variables.{in_scope}
use Rattle.kts_emit.proofs.Operations.{Pushes, AllPush}
use Rattle.kts_emit.proofs.Instructions.{fitted_pushed}

-- adding a window to 0 leaves it
pub zero_sum : (v : Window) → sum_of (pos 0, pos 0) v ≡ v
zero_sum v =
    let low : pos 0 +ℤ v.0 ≡ v.0 = omega (arith, ints) in
    let high : pos 0 +ℤ v.1 ≡ v.1 = omega (arith, ints) in
    let with_low : ℤ → Window = λ n. (n, pos 0 +ℤ v.1) in
    let with_high : ℤ → Window = λ n. (v.0, n) in
    ap with_low low ∙ ap with_high high

module _ (setup : Setup) (r : Context) where
  abbrev w : World
  w = world_in setup

  abbrev Over : Fragment → ℕ → ℕ → List ℕ → (List ℕ → Operand) → Type 0
  Over = Pushes setup r

  -- several parts put together, each with what is before it: X has the values, `shown` the operands
  abbrev pub StepsFit : {X : Type 0} → (X → X → X) → (X → X → Type 0) → X → List X → Type 0
  StepsFit f P a [] = Unit {0}
  StepsFit f P a (x ∷ xs) = P a x × StepsFit f P (f a x) xs

  abbrev pub Joins : {X : Type 0} → Instr → (X → X → X) → (X → Operand) → (X → X → Type 0) → Type 0
  Joins {X} i f shown P = (a x : X) → P a x → (p : ℕ) (stack : List Operand) (registers : List Register) → length stack < setup.code.stack
      → act setup 0 (Some i) (core_at r p (shown x ∷ (shown a ∷ stack)) registers) ≡ core_at r (p + 1) (shown (f a x) ∷ stack) registers

  abbrev pub shown_each : {X : Type 0} → (X → Operand) → List (List ℕ → X) → List (List ℕ → Operand)
  shown_each shown [] = []
  shown_each shown (x ∷ xs) = (λ vars. shown (x vars)) ∷ shown_each shown xs

  chain_rest_goes : {X : Type 0} (i : Instr) → is_inner (Some i) ≡ true → (f : X → X → X) (shown : X → Operand) (P : X → X → Type 0) → Joins i f shown P
      → (codes : List Fragment) (ns : List ℕ) (xs : List (List ℕ → X)) (a : X) (inner : ℕ) (scope vars : List ℕ) (p : ℕ) (stack : List Operand)
      (registers : List Register)
      → AllPush setup r inner scope codes ns (shown_each shown xs) → StepsFit f P a (at_each vars xs)
      → HasAt setup.code.instrs p (chain_rest i codes p (length scope)) → length registers ≡ most_variables → HasVariables w scope vars registers
      → inner + 1 + length stack ≤ setup.code.stack
      → Leads setup r (at r p (shown a ∷ stack) registers) (chain_rest_weight ns) scope vars (p + length (chain_rest i codes p (length scope)))
      (shown (fold f a (at_each vars xs)) ∷ stack)
  chain_rest_goes i inner_i f shown P joins [] [] [] a inner scope vars p stack registers all fits has n h room =
      let e : p ≡ p + 0 = omega arith in
      ended setup r e (stays setup r scope vars p (shown a ∷ stack) registers n h)
  chain_rest_goes i inner_i f shown P joins (c ∷ cs) (k ∷ ks) (x ∷ xs) a inner scope vars p stack registers all fits has n h room =
      let s = length scope in
      let first = c p s in
      let q = p + length first in
      let others = chain_rest i cs (q + 1) s in
      let back = has_back setup.code.instrs p first (i ∷ others) has in
      let b = all.0.goes vars p (shown a ∷ stack) registers (has_front setup.code.instrs p first (i ∷ others) has) n h (omega arith) in
      let d = next setup r b
      (λ registers2 n2 h2. steps_to setup r scope vars q (q + 1) (shown (x vars) ∷ (shown a ∷ stack))
      (shown (f a (x vars)) ∷ stack) registers2 registers2 i back.0 inner_i (joins a (x vars) fits.0 q stack registers2 (omega arith)) n2 h2) in
      let g = next setup r d
      (λ registers2 n2 h2. chain_rest_goes i inner_i f shown P joins cs ks xs (f a (x vars)) inner scope vars
      (q + 1) stack registers2 all.1 fits.1 back.1 n2 h2 room) in
      let e : q + 1 + length others ≡ p + length (first ++ i ∷ others) = omega (arith, length-append first (i ∷ others)) in
      ended setup r e g
  chain_rest_goes i inner_i f shown P joins cs ks xs a inner scope vars p stack registers all fits has n h room = absurd all

  pub chain_pushes : {X : Type 0} (i : Instr) → is_inner (Some i) ≡ true → (f : X → X → X) (z : X) (shown : X → Operand) (P : X → X → Type 0)
      → Joins i f shown P → ((x : X) → shown (f z x) ≡ shown x)
      → (codes : List Fragment) (ns : List ℕ) (xs : List (List ℕ → X)) (inner need : ℕ) (scope : List ℕ)
      → AllPush setup r inner scope codes ns (shown_each shown xs) → ((vars : List ℕ) → InScope w scope vars → StepsFit f P z (at_each vars xs))
      → 1 ≤ length codes → inner + 1 ≤ need
      → Over (chain i codes) (chain_weight ns) need scope (λ vars. shown (fold f z (at_each vars xs)))
  chain_pushes i inner_i f z shown P joins starts [] ns xs inner need scope all fits some le = absurd (omega arith)
  chain_pushes i inner_i f z shown P joins starts (c ∷ cs) (k ∷ ks) (x ∷ xs) inner need scope all fits some le = record {
    goes = λ vars p stack registers has n h room.
        let s = length scope in
        let first = c p s in
        let q = p + length first in
        let others = chain_rest i cs q s in
        let a = all.0.goes vars p stack registers (has_front setup.code.instrs p first others has) n h (omega arith) in
        let b = leaving setup r (ap (λ o. o ∷ stack) (sym (starts (x vars)))) a in
        let fit = fits vars (in_scope w scope vars registers h) in
        let g = next setup r b
        (λ registers2 n2 h2. chain_rest_goes i inner_i f shown P joins cs ks xs (f z (x vars)) inner scope vars q stack registers2 all.1 fit.1
        (has_back setup.code.instrs p first others has) n2 h2 (omega arith)) in
        let e : q + length others ≡ p + length (first ++ others) = omega (arith, length-append first others) in
        ended setup r e g;
  }
  chain_pushes i inner_i f z shown P joins starts (c ∷ cs) ns xs inner need scope all fits some le = absurd all

  -- the parts of a sum, and of a formula
  abbrev pub FitsSum : Abs → Abs → Type 0
  FitsSum a x = fitted (sum_of (window_of a) (window_of x)) ≡ Some (sum_of (window_of a) (window_of x))

  abbrev pub window_shown : Abs → Operand
  window_shown a = Win (window_of a)

  pub add_joins : Joins Add (on_windows sum_of) window_shown FitsSum
  add_joins a x fits p stack registers less =
      fitted_pushed setup r p (window_shown x ∷ (window_shown a ∷ stack)) stack registers (sum_of (window_of a) (window_of x)) fits less

  pub add_starts : (x : Abs) → window_shown (on_windows sum_of (window_value (pos 0, pos 0)) x) ≡ window_shown x
  add_starts x = ap (λ v. Win v) (zero_sum (window_of x))

  abbrev pub Always : Tri → Tri → Type 0
  Always a x = Unit {0}

  pub and_joins : Joins And and_of (λ t. Truth t) Always
  and_joins a x fits p stack registers less = pushed setup.code.stack r p (Truth x ∷ (Truth a ∷ stack)) stack registers (Truth (and_of a x)) less

  pub or_joins : Joins Or or_of (λ t. Truth t) Always
  or_joins a x fits p stack registers less = pushed setup.code.stack r p (Truth x ∷ (Truth a ∷ stack)) stack registers (Truth (or_of a x)) less
