-- Fragments that push an operand, one after the other, and the instructions after them.
use Rattle.std.proofs.Common.{◌≡◌, ℕ, suc, ◌+◌, ◌<◌, ◌≤◌, List, [], ◌∷◌, ◌++◌, length, Some, true, arith, length-append}
use Rattle.kts_base.specs.Limits.{most_variables}
use Rattle.kts_code.specs.declared.instructions.Instr.{Instr}
use Rattle.kts_code.specs.Machine.{act}
use Rattle.kts_code.specs.Setups.{Setup, world_in}
use Rattle.kts_code.specs.States.{Operand, Register}
use Rattle.kts_code.proofs.Places.{HasAt, has_front, has_back}
use Rattle.kts_code.proofs.Runs.{is_inner}
use Rattle.kts_spec.specs.Worlds.{World}
use Rattle.kts_emit.specs.Fragments.{Fragment, sequence, operation}
use Rattle.kts_emit.specs.Weights.{sequence_weight}
use Rattle.kts_emit.specs.Pushes.{HasVariables}
use Rattle.kts_emit.proofs.Contexts.{Context, core_at, at, Leads, next, steps_are, ended, stays, steps_to}

module _ (setup : Setup) (r : Context) where
  abbrev w : World
  w = world_in setup

  -- code that pushes an operand, in so many steps and with so many free places
  pub record Pushes (code : Fragment) (weight need : ℕ) (scope : List ℕ) (value : List ℕ → Operand) : Type 0 where
    pub goes : (vars : List ℕ) (p : ℕ) (stack : List Operand) (registers : List Register) → HasAt setup.code.instrs p (code p (length scope))
        → length registers ≡ most_variables → HasVariables w scope vars registers
        → need + length stack ≤ setup.code.stack
        → Leads setup r (at r p stack registers) weight scope vars (p + length (code p (length scope))) (value vars ∷ stack)

  abbrev pub AllPush : ℕ → List ℕ → List Fragment → List ℕ → List (List ℕ → Operand) → Type 0
  AllPush need scope [] [] [] = Unit {0}
  AllPush need scope (c ∷ cs) (n ∷ ns) (v ∷ vs) = Pushes c n need scope v × AllPush need scope cs ns vs
  AllPush need scope cs ns vs = ⊥

  -- operands on a stack, the last on top
  abbrev pub piled : List (List ℕ → Operand) → List ℕ → List Operand → List Operand
  piled [] vars stack = stack
  piled (v ∷ vs) vars stack = piled vs vars (v vars ∷ stack)

  -- several codes leave their operands
  pub sequence_goes : (codes : List Fragment) (ns : List ℕ) (vs : List (List ℕ → Operand)) (need : ℕ) (scope vars : List ℕ) (p : ℕ) (stack : List Operand)
      (registers : List Register)
      → AllPush need scope codes ns vs → HasAt setup.code.instrs p (sequence codes p (length scope)) → length registers ≡ most_variables
      → HasVariables w scope vars registers → need + length codes + length stack ≤ suc setup.code.stack
      → Leads setup r (at r p stack registers) (sequence_weight ns) scope vars (p + length (sequence codes p (length scope))) (piled vs vars stack)
  sequence_goes [] [] [] need scope vars p stack registers all has n h room =
      let e : p ≡ p + 0 = omega arith in
      ended setup r e (stays setup r scope vars p stack registers n h)
  sequence_goes (c ∷ cs) (k ∷ ks) (v ∷ vs) need scope vars p stack registers all has n h room =
      let s = length scope in
      let first = c p s in
      let others = sequence cs (p + length first) s in
      let a = all.0.goes vars p stack registers (has_front setup.code.instrs p first others has) n h (omega arith) in
      let e : p + length first + length others ≡ p + length (first ++ others) = omega (arith, length-append first others) in
      ended setup r e (next setup r a
      (λ registers2 n2 h2. sequence_goes cs ks vs need scope vars (p + length first) (v vars ∷ stack) registers2 all.1
      (has_back setup.code.instrs p first others has) n2 h2 (omega arith)))
  sequence_goes cs ks vs need scope vars p stack registers all has n h room = absurd all

  -- instructions that make one operand of several
  pub record Makes (last : List Instr) (weight : ℕ) (scope : List ℕ) (vs : List (List ℕ → Operand)) (value : List ℕ → Operand) : Type 0 where
    pub goes : (vars : List ℕ) (p : ℕ) (stack : List Operand) (registers : List Register) → HasAt setup.code.instrs p last
        → length registers ≡ most_variables → HasVariables w scope vars registers
        → length stack < setup.code.stack
        → Leads setup r (at r p (piled vs vars stack) registers) weight scope vars (p + length last) (value vars ∷ stack)

  -- one instruction
  pub makes_one : (i : Instr) → is_inner (Some i) ≡ true → (scope : List ℕ) (vs : List (List ℕ → Operand)) (value : List ℕ → Operand)
      → ((vars : List ℕ) (p : ℕ) (stack : List Operand) (registers : List Register) → HasVariables w scope vars registers
      → length stack < setup.code.stack
      → act setup 0 (Some i) (core_at r p (piled vs vars stack) registers) ≡ core_at r (p + 1) (value vars ∷ stack) registers)
      → Makes (i ∷ []) 1 scope vs value
  makes_one i inner scope vs value f = record {
    goes = λ vars p stack registers has n h less. steps_to setup r scope vars p (p + 1) (piled vs vars stack)
        (value vars ∷ stack) registers registers i has.0 inner (f vars p stack registers h less) n h;
  }

  -- one instruction and another
  pub makes_two : (i j : Instr) (scope : List ℕ) (vs : List (List ℕ → Operand)) (value value2 : List ℕ → Operand) → Makes (i ∷ []) 1 scope vs value
      → Makes (j ∷ []) 1 scope (value ∷ []) value2 → Makes (i ∷ j ∷ []) 2 scope vs value2
  makes_two i j scope vs value value2 a b = record {
    goes = λ vars p stack registers has n h less.
        let e : p + 1 + 1 ≡ p + 2 = omega arith in
        ended setup r e (next setup r (a.goes vars p stack registers (has.0, tt) n h less)
        (λ registers2 n2 h2. b.goes vars (p + 1) stack registers2 (has.1.0, tt) n2 h2 less));
  }

  -- several codes and the instructions after them
  pub operation_pushes : (codes : List Fragment) (ns : List ℕ) (vs : List (List ℕ → Operand)) (last : List Instr) (k inner need : ℕ) (scope : List ℕ)
      (value : List ℕ → Operand)
      → AllPush inner scope codes ns vs → Makes last k scope vs value → inner + length codes ≤ suc need → 1 ≤ need
      → Pushes (operation codes last) (sequence_weight ns + k) need scope value
  operation_pushes codes ns vs last k inner need scope value all ends le some = record {
    goes = λ vars p stack registers has n h room.
        let s = length scope in
        let front = sequence codes p s in
        let a = sequence_goes codes ns vs inner scope vars p stack registers all (has_front setup.code.instrs p front last has) n h (omega arith) in
        let e : p + length front + length last ≡ p + length (front ++ last) = omega (arith, length-append front last) in
        ended setup r e (next setup r a
        (λ registers2 n2 h2. ends.goes vars (p + length front) stack registers2 (has_back setup.code.instrs p front last has) n2 h2
        (omega arith)));
  }

  -- its steps under another name, and more places than it needs
  pub more_room : {code : Fragment} {weight most need room : ℕ} {scope : List ℕ} {value : List ℕ → Operand} → weight ≡ most → need ≤ room
      → Pushes code weight need scope value → Pushes code most room scope value
  more_room {code} {weight} {most} {need} {room} {scope} {value} le fits c = record {
    goes = λ vars p stack registers has n h free. steps_are setup r le (c.goes vars p stack registers has n h (omega arith));
  }
