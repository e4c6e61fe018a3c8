-- Loops over the members of an index.
use Rattle.std.proofs.Common.{◌≡◌, ℕ, zero, suc, ◌+◌, ◌*◌, ◌<◌, ◌≤◌, List, [], ◌∷◌, ◌++◌, length, Some, None, true, false, cond, refl, sym, ap, ◌∙◌, subst, arith, length-append, map, fold}
use Rattle.std.specs.Prelude.{slice_get, slice_set, nat_lt}
use Rattle.std.specs.List.{range_with_len}
use Rattle.std.proofs.lemmas.List.{length-set}
use Rattle.std.proofs.Math.Nat.{suc-mul}
use Rattle.kts_base.specs.Limits.{most_variables}
use Rattle.kts_code.specs.declared.instructions.Instr.{Instr}
use Rattle.kts_code.specs.declared.instructions.Instr.TheVariants.{First, Next}
use Rattle.kts_code.specs.Machine.{act}
use Rattle.kts_code.specs.Operands.{on_first, on_next}
use Rattle.kts_code.specs.Setups.{Setup, world_in}
use Rattle.kts_code.specs.States.{Operand, Register}
use Rattle.kts_code.proofs.Places.{HasAt, has_front, has_back}
use Rattle.kts_code.proofs.Runs.{is_inner}
use Rattle.kts_spec.specs.Worlds.{World, size_of}
use Rattle.kts_emit.specs.Fragments.{Fragment, sequence, operation, loop, begun}
use Rattle.kts_emit.specs.Weights.{sequence_weight, loop_weight}
use Rattle.kts_emit.specs.Pushes.{HasVariables}
use Rattle.kts_emit.proofs.Contexts.{Context, core_at, at, Leads, next, steps_are, ended, steps_to}
use Rattle.kts_emit.proofs.Variables.{held_more, held_less, held_last, held_still}
use Rattle.kts_emit.proofs.Operations.{Pushes, AllPush, piled, sequence_goes}

-- the first so many put together, from the first on
abbrev pub folded : {X : Type 0} → (X → X → X) → (ℕ → X) → X → ℕ → X
folded f g z zero = z
folded f g z (suc m) = f (folded f g z m) (g m)

fold_from : {X : Type 0} (f : X → X → X) (g : ℕ → X) (z : X) (a n : ℕ) → fold f (folded f g z a) (map g (range_with_len a n)) ≡ folded f g z (a + n)
fold_from f g z a zero = let e : a ≡ a + 0 = omega arith in ap (folded f g z) e
fold_from f g z a (suc n) =
    let e : suc a ≡ a + 1 = omega arith in
    let k : a + 1 + n ≡ a + suc n = omega arith in
    ap (λ x. fold f x (map g (range_with_len (a + 1) n))) (ap (folded f g z) e) ∙ fold_from f g z (a + 1) n ∙ ap (folded f g z) k

pub fold_all : {X : Type 0} (f : X → X → X) (g : ℕ → X) (z : X) (n : ℕ) → folded f g z n ≡ fold f z (map g (range_with_len 0 n))
fold_all f g z n = let e : 0 + n ≡ n = omega arith in sym (fold_from f g z 0 n ∙ ap (folded f g z) e)

module _ (setup : Setup) (r : Context) where
  abbrev w : World
  w = world_in setup

  goes_on : (p : ℕ) (stack : List Operand) (registers : List Register) (s to i m : ℕ) → slice_get registers s ≡ Some (Some (i, m))
      → suc m < size_of w i
      → act setup 0 (Some (Next s to)) (core_at r p stack registers) ≡ core_at r to stack (slice_set registers s (Some (i, suc m)))
  goes_on p stack registers s to i m h less =
      let e : nat_lt (suc m) (size_of w i) ≡ true = search arith in
      ap (λ o. on_next w (core_at r p stack registers) o s to) h
      ∙ ap (λ t. cond t (core_at r to stack (slice_set registers s (Some (i, suc m)))) (core_at r (p + 1) stack (slice_set registers s None))) e

  stops : (p : ℕ) (stack : List Operand) (registers : List Register) (s to i m : ℕ) → slice_get registers s ≡ Some (Some (i, m)) → size_of w i ≤ suc m
      → act setup 0 (Some (Next s to)) (core_at r p stack registers) ≡ core_at r (p + 1) stack (slice_set registers s None)
  stops p stack registers s to i m h le =
      let e : nat_lt (suc m) (size_of w i) ≡ false = search arith in
      ap (λ o. on_next w (core_at r p stack registers) o s to) h
      ∙ ap (λ t. cond t (core_at r to stack (slice_set registers s (Some (i, suc m)))) (core_at r (p + 1) stack (slice_set registers s None))) e

  -- the body puts one member more to what is known
  pub record Turns (body : Fragment) (weight need : ℕ) (scope : List ℕ) (i : ℕ) (known : List ℕ → ℕ → Operand) : Type 0 where
    pub goes : (vars : List ℕ) (m p : ℕ) (stack : List Operand) (registers : List Register) → m < size_of w i
        → HasAt setup.code.instrs p (body p (suc (length scope))) → length registers ≡ most_variables
        → HasVariables w (scope ++ i ∷ []) (vars ++ m ∷ []) registers → need + length stack ≤ setup.code.stack
        → Leads setup r (at r p (known vars m ∷ stack) registers) weight (scope ++ i ∷ []) (vars ++ m ∷ []) (p + length (body p (suc (length scope))))
        (known vars (suc m) ∷ stack)

  module _ (body : Fragment) (weight need : ℕ) (scope : List ℕ) (i : ℕ) (known : List ℕ → ℕ → Operand) (turns : Turns body weight need scope i known)
      (fits : length scope < most_variables) where
    abbrev s : ℕ
    s = length scope

    abbrev inside : ℕ → List Instr
    inside p = body (p + 1) (suc s)

    -- from member m on, d members after it
    rounds : (d m : ℕ) (vars : List ℕ) (p : ℕ) (stack : List Operand) (registers : List Register) → m + suc d ≡ size_of w i
        → HasAt setup.code.instrs p (body p (suc s) ++ Next s p ∷ []) → length registers ≡ most_variables
        → HasVariables w scope vars registers → HasVariables w (scope ++ i ∷ []) (vars ++ m ∷ []) registers → need + length stack ≤ setup.code.stack
        → Leads setup r (at r p (known vars m ∷ stack) registers) (suc d * (weight + 1)) scope vars (p + length (body p (suc s)) + 1)
        (known vars (size_of w i) ∷ stack)
    rounds zero m vars p stack registers e has n g h room =
        let last : suc m ≡ size_of w i = omega arith in
        let q = p + length (body p (suc s)) in
        let a = turns.goes vars m p stack registers (omega arith) (has_front setup.code.instrs p (body p (suc s)) _ has) n h room in
        let b = next setup r a (λ registers2 n2 h2.
        let g2 = held_less w scope vars registers2 i m h2 in
        steps_to setup r scope vars q (q + 1) (known vars (suc m) ∷ stack) (known vars (suc m) ∷ stack) registers2 (slice_set registers2 s None)
        (Next s p) (has_back setup.code.instrs p (body p (suc s)) _ has).0 refl
        (stops q (known vars (suc m) ∷ stack) registers2 s p i m (held_last w scope vars registers2 i m g2 h2) (omega arith))
        (length-set registers2 s None ∙ n2) (held_still w scope vars registers2 None g2)) in
        let few : weight + 1 ≡ 1 * (weight + 1) = omega arith in
        steps_are setup r few
        (subst (λ k. Leads setup r (at r p (known vars m ∷ stack) registers) (weight + 1) scope vars (q + 1) (known vars k ∷ stack)) last b)
    rounds (suc d) m vars p stack registers e has n g h room =
        let q = p + length (body p (suc s)) in
        let a = turns.goes vars m p stack registers (omega arith) (has_front setup.code.instrs p (body p (suc s)) _ has) n h room in
        let less : suc m < size_of w i = omega arith in
        let b = next setup r a (λ registers2 n2 h2.
        let g2 = held_less w scope vars registers2 i m h2 in
        let n3 = length-set registers2 s (Some (i, suc m)) ∙ n2 in
        let h3 = held_more w scope vars registers2 i (suc m) (omega arith) less g2 in
        steps_to setup r (scope ++ i ∷ []) (vars ++ suc m ∷ []) q p (known vars (suc m) ∷ stack) (known vars (suc m) ∷ stack) registers2
        (slice_set registers2 s (Some (i, suc m))) (Next s p) (has_back setup.code.instrs p (body p (suc s)) _ has).0 refl
        (goes_on q (known vars (suc m) ∷ stack) registers2 s p i m (held_last w scope vars registers2 i m g2 h2) less) n3 h3) in
        let c = next setup r b
        (λ registers3 n3 h3. rounds d (suc m) vars p stack registers3 (omega arith) has n3
        (held_less w scope vars registers3 i (suc m) h3) h3 room) in
        let few : weight + 1 + suc d * (weight + 1) ≡ suc (suc d) * (weight + 1) = omega (arith, suc-mul (suc d) (weight + 1)) in
        steps_are setup r few c

    -- the loop
    pub loop_goes : (vars : List ℕ) (p : ℕ) (stack : List Operand) (registers : List Register) → HasAt setup.code.instrs p (loop i body p s)
        → length registers ≡ most_variables → HasVariables w scope vars registers → need + length stack ≤ setup.code.stack
        → Leads setup r (at r p (known vars 0 ∷ stack) registers) (loop_weight (size_of w) i weight) scope vars (p + length (loop i body p s))
        (known vars (size_of w i) ∷ stack)
    loop_goes vars p stack registers has n h room = by_size (size_of w i) refl
      where
        after_loop : p + 1 + length (inside p) + 1 ≡ p + length (loop i body p s)
        after_loop = omega (arith, length-append (inside p) (Next s (p + 1) ∷ []))

        by_size : (k : ℕ) → size_of w i ≡ k
            → Leads setup r (at r p (known vars 0 ∷ stack) registers) (loop_weight (size_of w) i weight) scope vars (p + length (loop i body p s))
            (known vars (size_of w i) ∷ stack)
        by_size zero e =
            let a = steps_to setup r scope vars p (p + 1 + length (inside p) + 1) (known vars 0 ∷ stack) (known vars 0 ∷ stack) registers registers
            (First s i (p + 1 + length (inside p) + 1)) has.0 refl
            (ap (λ k. on_first k (core_at r p (known vars 0 ∷ stack) registers) s i (p + 1 + length (inside p) + 1)) e) n h in
            let few : 1 ≡ 1 + size_of w i * (weight + 1) =
            (let none : 1 ≡ 1 + 0 * (weight + 1) = omega arith in none ∙ ap (λ k. 1 + k * (weight + 1)) (sym e)) in
            steps_are setup r few
            (ended setup r after_loop
            (subst (λ k. Leads setup r (at r p (known vars 0 ∷ stack) registers) 1 scope vars (p + 1 + length (inside p) + 1)
            (known vars k ∷ stack)) (sym e) a))
        by_size (suc d) e =
            let member : 0 < size_of w i = omega arith in
            let a = steps_to setup r (scope ++ i ∷ []) (vars ++ 0 ∷ []) p (p + 1) (known vars 0 ∷ stack) (known vars 0 ∷ stack) registers
            (slice_set registers s (Some (i, 0))) (First s i (p + 1 + length (inside p) + 1)) has.0 refl
            (ap (λ k. on_first k (core_at r p (known vars 0 ∷ stack) registers) s i (p + 1 + length (inside p) + 1)) e)
            (length-set registers s (Some (i, 0)) ∙ n) (held_more w scope vars registers i 0 (omega arith) member h) in
            let all : 0 + suc d ≡ size_of w i = omega arith in
            let b = next setup r a
            (λ registers2 n2 h2. rounds d 0 vars (p + 1) stack registers2 all has.1 n2 (held_less w scope vars registers2 i 0 h2) h2 room) in
            let few : 1 + suc d * (weight + 1) ≡ 1 + size_of w i * (weight + 1) = ap (λ k. 1 + k * (weight + 1)) (sym e) in
            steps_are setup r few (ended setup r after_loop b)

  -- an instruction that pushes what is known before the first member, and the loop
  pub begun_pushes : (start : Instr) → is_inner (Some start) ≡ true
      → (body : Fragment) (weight inner need : ℕ) (scope : List ℕ) (i : ℕ) (known : List ℕ → ℕ → Operand) → Turns body weight inner scope i known
      → length scope < most_variables
      → ((vars : List ℕ) (p : ℕ) (stack : List Operand) (registers : List Register) → length stack < setup.code.stack
      → act setup 0 (Some start) (core_at r p stack registers) ≡ core_at r (p + 1) (known vars 0 ∷ stack) registers)
      → inner ≤ need → 1 ≤ need
      → Pushes setup r (begun start (loop i body)) (1 + loop_weight (size_of w) i weight) need scope (λ vars. known vars (size_of w i))
  begun_pushes start inner_start body weight inner need scope i known turns fits begins le some = record {
    goes = λ vars p stack registers has n h room.
        let a = steps_to setup r scope vars p (p + 1) stack (known vars 0 ∷ stack) registers registers start has.0 inner_start
        (begins vars p stack registers (omega arith)) n h in
        let e : p + 1 + length (loop i body (p + 1) (length scope)) ≡ p + length (begun start (loop i body) p (length scope)) = omega arith in
        ended setup r e (next setup r a
        (λ registers2 n2 h2. loop_goes body weight inner scope i known turns fits vars (p + 1) stack registers2 has.1 n2 h2 (omega arith)));
  }

  -- a body of several codes and the instructions after them
  pub operation_turns : (codes : List Fragment) (ns : List ℕ) (vs : List (List ℕ → Operand)) (last : List Instr) (k inner need : ℕ) (scope : List ℕ)
      (i : ℕ) (known : List ℕ → ℕ → Operand)
      → AllPush setup r inner (scope ++ i ∷ []) codes ns vs
      → ((vars : List ℕ) (m p : ℕ) (stack : List Operand) (registers : List Register) → m < size_of w i → HasAt setup.code.instrs p last
      → length registers ≡ most_variables → HasVariables w (scope ++ i ∷ []) (vars ++ m ∷ []) registers → length stack + 1 < setup.code.stack
      → Leads setup r (at r p (piled setup r vs (vars ++ m ∷ []) (known vars m ∷ stack)) registers) k (scope ++ i ∷ []) (vars ++ m ∷ [])
      (p + length last) (known vars (suc m) ∷ stack))
      → inner + length codes ≤ need → 2 ≤ need → Turns (operation codes last) (sequence_weight ns + k) need scope i known
  operation_turns codes ns vs last k inner need scope i known all ends le some = record {
    goes = λ vars m p stack registers member has n h room.
        let s = length scope in
        let long : length (scope ++ i ∷ []) ≡ suc s = omega (arith, length-append scope (i ∷ [])) in
        let front = sequence codes p (suc s) in
        let has_row = has_front setup.code.instrs p front last has in
        let a = sequence_goes setup r codes ns vs inner (scope ++ i ∷ []) (vars ++ m ∷ []) p (known vars m ∷ stack) registers all
        (subst (λ z. HasAt setup.code.instrs p (sequence codes p z)) (sym long) has_row) n h (omega arith) in
        let b = subst (λ z. Leads setup r (at r p (known vars m ∷ stack) registers) (sequence_weight ns) (scope ++ i ∷ []) (vars ++ m ∷ [])
        (p + length (sequence codes p z)) (piled setup r vs (vars ++ m ∷ []) (known vars m ∷ stack))) long a in
        let e : p + length front + length last ≡ p + length (front ++ last) = omega (arith, length-append front last) in
        ended setup r e (next setup r b
        (λ registers2 n2 h2. ends vars m (p + length front) stack registers2 member (has_back setup.code.instrs p front last has) n2 h2
        (omega arith)));
  }
