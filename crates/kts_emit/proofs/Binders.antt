-- The code of sums over an index, and of binders.
use Rattle.std.proofs.Common.{◌≡◌, ℕ, suc, ◌+◌, ◌<◌, ◌≤◌, List, [], ◌∷◌, ◌++◌, length, Some, true, refl, sym, ap, subst, arith, length-append, append_assoc, map, fold}
use Rattle.std.specs.Prelude.{pos}
use Rattle.std.specs.List.{range_with_len}
use Rattle.std.proofs.lemmas.List.{append-nil}
use Rattle.kts_abs.specs.declared.truth.Tri.{Tri}
use Rattle.kts_abs.specs.InSpace.{only_of, on_windows}
use Rattle.kts_abs.specs.Values.{Abs, Win as window_value, window_of}
use Rattle.kts_abs.specs.Windows.{Window, sum_of, gated}
use Rattle.kts_base.specs.Limits.{most_variables}
use Rattle.kts_code.specs.declared.instructions.Instr.{Instr}
use Rattle.kts_code.specs.declared.instructions.Instr.TheVariants.{Num, Add, Gate}
use Rattle.kts_code.specs.Machine.{act}
use Rattle.kts_code.specs.Setups.{Setup, world_in}
use Rattle.kts_code.specs.States.{Operand, Win, Truth, Register}
use Rattle.kts_code.proofs.Places.{HasAt}
use Rattle.kts_code.proofs.Runs.{is_inner}
use Rattle.kts_spec.specs.Domain.{over}
use Rattle.kts_spec.specs.TypedValues.{InScope}
use Rattle.kts_spec.specs.Worlds.{World, size_of}
use Rattle.kts_emit.specs.Fragments.{Fragment, operation, loop, begun, nested_loops}
use Rattle.kts_emit.specs.Weights.{sequence_weight, loop_weight, nested_weight}
use Rattle.kts_emit.specs.Pushes.{HasVariables}
use Rattle.kts_emit.proofs.Contexts.{Context, core_at, at, Leads, next, ended, leaving, steps_to, pushed}
use Rattle.kts_emit.proofs.Variables.{held_less, in_scope}
use Rattle.kts_emit.proofs.Operations.{Pushes, more_room}
use Rattle.kts_emit.proofs.MemberLoops.{folded, fold_all, begun_pushes, operation_turns}
use Rattle.kts_emit.proofs.Chains.{Joins, Always, FitsSum, add_joins}

module _ (setup : Setup) (r : Context) where
  abbrev w : World
  w = world_in setup

  -- the operand under another name
  pub renamed : {code : Fragment} {weight need : ℕ} {scope : List ℕ} {value value2 : List ℕ → Operand}
      → ((vars : List ℕ) → InScope w scope vars → value vars ≡ value2 vars) → Pushes setup r code weight need scope value
      → Pushes setup r code weight need scope value2
  renamed {code} {weight} {need} {scope} {value} {value2} e c = record {
    goes = λ vars p stack registers has n h room. leaving setup r (ap (λ o. o ∷ stack) (e vars (in_scope w scope vars registers h)))
        (c.goes vars p stack registers has n h room);
  }

  module _ (i : ℕ) (scope : List ℕ) (t : List ℕ → Tri) (v : List ℕ → Window) where
    -- the addend of a member, and the sum before it
    abbrev pub addend : List ℕ → ℕ → Abs
    addend vars m = window_value (gated (t (vars ++ m ∷ [])) (v (vars ++ m ∷ [])))

    abbrev pub so_far : List ℕ → ℕ → Abs
    so_far vars = folded (on_windows sum_of) (addend vars) (only_of (pos 0))

    abbrev pub all_added : List ℕ → Abs
    all_added vars = fold (on_windows sum_of) (only_of (pos 0)) (map (addend vars) (range_with_len 0 (size_of w i)))

    abbrev known : List ℕ → ℕ → Operand
    known vars m = Win (window_of (so_far vars m))

    pub sum_pushes : (cp ca : Fragment) (np na inner need : ℕ) → Pushes setup r cp np inner (scope ++ i ∷ []) (λ vars. Truth (t vars))
        → Pushes setup r ca na inner (scope ++ i ∷ []) (λ vars. Win (v vars))
        → ((vars : List ℕ) (m : ℕ) → InScope w scope vars → m < size_of w i → FitsSum setup r (so_far vars m) (addend vars m))
        → length scope < most_variables → inner + 2 ≤ need → 2 ≤ need
        → Pushes setup r (begun (Num (pos 0)) (loop i (operation (cp ∷ ca ∷ []) (Gate ∷ Add ∷ []))))
        (1 + loop_weight (size_of w) i (np + na + 2)) need scope (λ vars. Win (window_of (all_added vars)))
    sum_pushes cp ca np na inner need hp ha fits few le some =
        let turns = operation_turns setup r (cp ∷ ca ∷ []) (np ∷ na ∷ []) ((λ vars. Truth (t vars)) ∷ (λ vars. Win (v vars)) ∷ [])
        (Gate ∷ Add ∷ []) 2 inner need scope i known (hp, (ha, tt)) ends (omega arith) some in
        let all = begun_pushes setup r (Num (pos 0)) refl (operation (cp ∷ ca ∷ []) (Gate ∷ Add ∷ []))
        (sequence_weight (np ∷ na ∷ []) + 2) need need scope i known turns few
        (λ vars p stack registers less. pushed setup.code.stack r p stack stack registers (Win (pos 0, pos 0)) less) (omega arith) (omega arith) in
        let e : np + (na + 0) + 2 ≡ np + na + 2 = omega arith in
        renamed (λ vars inside. ap (λ a. Win (window_of a)) (fold_all (on_windows sum_of) (addend vars) (only_of (pos 0)) (size_of w i)))
        (subst (λ n. Pushes setup r (begun (Num (pos 0)) (loop i (operation (cp ∷ ca ∷ []) (Gate ∷ Add ∷ []))))
        (1 + loop_weight (size_of w) i n) need scope (λ vars. known vars (size_of w i))) e all)
      where
        ends : (vars : List ℕ) (m p : ℕ) (stack : List Operand) (registers : List Register) → m < size_of w i
            → HasAt setup.code.instrs p (Gate ∷ Add ∷ []) → length registers ≡ most_variables
            → HasVariables w (scope ++ i ∷ []) (vars ++ m ∷ []) registers → length stack + 1 < setup.code.stack
            → Leads setup r (at r p (Win (v (vars ++ m ∷ [])) ∷ (Truth (t (vars ++ m ∷ [])) ∷ (known vars m ∷ stack))) registers) 2 (scope ++ i ∷ [])
            (vars ++ m ∷ []) (p + 2) (known vars (suc m) ∷ stack)
        ends vars m p stack registers member has n h less =
            let inside = in_scope w scope vars registers (held_less w scope vars registers i m h) in
            let x = gated (t (vars ++ m ∷ [])) (v (vars ++ m ∷ [])) in
            let full = Win (v (vars ++ m ∷ [])) ∷ (Truth (t (vars ++ m ∷ [])) ∷ (known vars m ∷ stack)) in
            let a = steps_to setup r (scope ++ i ∷ []) (vars ++ m ∷ []) p (p + 1) full
            (Win x ∷ (known vars m ∷ stack)) registers registers Gate has.0 refl
            (pushed setup.code.stack r p full (known vars m ∷ stack) registers (Win x) (omega arith)) n h in
            let b = next setup r a
            (λ registers2 n2 h2. steps_to setup r (scope ++ i ∷ []) (vars ++ m ∷ []) (p + 1) (p + 1 + 1) (Win x ∷ (known vars m ∷ stack))
            (known vars (suc m) ∷ stack) registers2 registers2 Add has.1.0 refl
            (add_joins setup r (so_far vars m) (addend vars m) (fits vars m inside member) (p + 1) stack registers2 (omega arith)) n2 h2) in
            let e : p + 1 + 1 ≡ p + 2 = omega arith in
            ended setup r e b

  module _ (start op : Instr) (inner_start : is_inner (Some start) ≡ true) (inner_op : is_inner (Some op) ≡ true) (combine : Tri → Tri → Tri)
      (unit : Tri) (begins : (p : ℕ) (stack : List Operand) (registers : List Register) → length stack < setup.code.stack
      → act setup 0 (Some start) (core_at r p stack registers) ≡ core_at r (p + 1) (Truth unit ∷ stack) registers)
      (joins : Joins setup r op combine (λ t. Truth t) (Always setup r)) where
    -- a loop for each index
    pub loops_push : (indexes scope : List ℕ) (c : Fragment) (weight inner need : ℕ) (g : List ℕ → Tri)
        → Pushes setup r c weight inner (scope ++ indexes) (λ vars. Truth (g vars)) → inner + length indexes ≤ need → 1 ≤ inner
        → length scope + length indexes ≤ most_variables
        → Pushes setup r (nested_loops start op indexes c) (nested_weight (size_of w) indexes weight) need scope
        (λ vars. Truth (over combine unit (map (size_of w) indexes) g vars))
    loops_push [] scope c weight inner need g h le some few =
        let all = subst (λ l. Pushes setup r c weight inner l (λ vars. Truth (g vars))) (append-nil scope) h in
        let same : weight ≡ weight = omega arith in
        let fits : inner ≤ need = omega arith in
        more_room setup r same fits all
    loops_push (i ∷ indexes) scope c weight inner need g h le some few =
        let scope2 = scope ++ i ∷ [] in
        let long : length scope2 ≡ length scope + 1 = length-append scope (i ∷ []) in
        let moved = subst (λ l. Pushes setup r c weight inner l (λ vars. Truth (g vars))) (sym (append_assoc scope (i ∷ []) indexes)) h in
        let deep = loops_push indexes scope2 c weight inner (inner + length indexes) g moved (omega arith) some (omega arith) in
        let turns = operation_turns setup r (nested_loops start op indexes c ∷ []) (nested_weight (size_of w) indexes weight ∷ [])
        ((λ vars. Truth (below vars)) ∷ []) (op ∷ []) 1 (inner + length indexes) need scope i known (deep, tt) ends (omega arith) (omega arith) in
        let all = begun_pushes setup r start inner_start (operation (nested_loops start op indexes c ∷ []) (op ∷ []))
        (sequence_weight (nested_weight (size_of w) indexes weight ∷ []) + 1) need need scope i known turns (omega arith)
        (λ vars p stack registers less. begins p stack registers less) (omega arith) (omega arith) in
        let e : nested_weight (size_of w) indexes weight + 0 + 1 ≡ nested_weight (size_of w) indexes weight + 1 = omega arith in
        renamed (λ vars inside. ap (λ t. Truth t) (fold_all combine (λ m. below (vars ++ m ∷ [])) unit (size_of w i)))
        (subst (λ n. Pushes setup r (begun start (loop i (operation (nested_loops start op indexes c ∷ []) (op ∷ []))))
        (1 + loop_weight (size_of w) i n) need scope (λ vars. known vars (size_of w i))) e all)
      where
        below : List ℕ → Tri
        below = over combine unit (map (size_of w) indexes) g

        known : List ℕ → ℕ → Operand
        known vars m = Truth (folded combine (λ k. below (vars ++ k ∷ [])) unit m)

        ends : (vars : List ℕ) (m p : ℕ) (stack : List Operand) (registers : List Register) → m < size_of w i → HasAt setup.code.instrs p (op ∷ [])
            → length registers ≡ most_variables → HasVariables w (scope ++ i ∷ []) (vars ++ m ∷ []) registers → length stack + 1 < setup.code.stack
            → Leads setup r (at r p (Truth (below (vars ++ m ∷ [])) ∷ (known vars m ∷ stack)) registers) 1 (scope ++ i ∷ []) (vars ++ m ∷ []) (p + 1)
            (known vars (suc m) ∷ stack)
        ends vars m p stack registers member has n h less =
            steps_to setup r (scope ++ i ∷ []) (vars ++ m ∷ []) p (p + 1) (Truth (below (vars ++ m ∷ [])) ∷ (known vars m ∷ stack))
            (known vars (suc m) ∷ stack) registers registers op has.0 inner_op
            (joins (folded combine (λ k. below (vars ++ k ∷ [])) unit m) (below (vars ++ m ∷ [])) tt p stack registers (omega arith)) n h
