-- The body of a well typed constraint does what its task asks.
use Rattle.std.proofs.Common.{◌≡◌, ℕ, ◌+◌, ◌*◌, ◌≤◌, List, [], ◌∷◌, ◌++◌, length, map, Some, Bool, true, false, ◌&&◌, cond, refl, sym, ap, ◌∙◌, subst, arith, length-append}
use Rattle.std.proofs.lemmas.List.{length-map}
use Rattle.std.proofs.lemmas.Option.{get_or_from_slice_get}
use Rattle.kts_abs.specs.declared.truth.Tri.{Tri}
use Rattle.kts_abs.specs.declared.truth.Tri.TheVariants.{F, U, T}
use Rattle.kts_abs.specs.Demands.{Demand}
use Rattle.kts_abs.specs.InSpace.{value_in}
use Rattle.kts_abs.specs.Ranged.{ValuesAreRanged}
use Rattle.kts_abs.specs.Spaces.{IsAbove, types}
use Rattle.kts_base.specs.Limits.{most_variables, most_arguments, most_depth}
use Rattle.kts_clause.specs.declared.literal.Literal.{Literal}
use Rattle.kts_code.specs.declared.instructions.Instr.TheVariants as i
use Rattle.kts_code.specs.HeadSteps.{on_cell}
use Rattle.kts_code.specs.Machine.{act}
use Rattle.kts_code.specs.Setups.{Setup, world_in}
use Rattle.kts_code.specs.States.{Operand, Truth, Register, State}
use Rattle.kts_code.proofs.Places.{HasAt, has_front, has_back}
use Rattle.kts_code.proofs.Systems.{and_then, at_once, in_more, less_known}
use Rattle.kts_plan.specs.declared.head.Head.{Head}
use Rattle.kts_plan.specs.Asks.{is_false, literal_in, all_false, bound_in, head_cell, asked, asks}
use Rattle.kts_plan.specs.Asks as plan
use Rattle.kts_plan.specs.Constraints.{Constraint}
use Rattle.kts_spec.specs.declared.declarations.Family.{Family}
use Rattle.kts_spec.specs.declared.schema.Schema.{Schema}
use Rattle.kts_spec.specs.Data.{is_valid}
use Rattle.kts_spec.specs.Related.{AllOf, Pairs}
use Rattle.kts_spec.specs.Schemas.{no_family}
use Rattle.kts_spec.specs.Worlds.{World, size_of, choice_of}
use Rattle.kts_spec.proofs.Conditions.{schema_facts}
use Rattle.kts_emit.specs.Fragments.{Fragment, sequence, chain_rest}
use Rattle.kts_emit.specs.Bodies.{literal_code, bound_code, op_instr, head_code, body_code}
use Rattle.kts_emit.specs.BodyWeights.{literal_weight, bound_weight, head_weight, body_weight}
use Rattle.kts_emit.specs.Codes.{term_code}
use Rattle.kts_emit.specs.Effects.{Effect, Kept, effect_of}
use Rattle.kts_emit.specs.Pushes.{HasVariables}
use Rattle.kts_emit.specs.Weights.{sequence_weight, chain_rest_weight, weight_of_term}
use Rattle.kts_emit.proofs.Accesses.{set_values}
use Rattle.kts_emit.proofs.BoundValues.{literal_pushes, bound_pushes}
use Rattle.kts_emit.proofs.Contexts.{Context, core_at, at, Leads, StandsWith, next, ended, leaving, stays, steps_to}
use Rattle.kts_emit.proofs.DemandSteps.{Ends, quiet_on_the_way, then_ends, effect_is, settles}
use Rattle.kts_emit.proofs.HeadArguments.{arguments_push, many_arguments, cell_found, head_acts}
use Rattle.kts_emit.proofs.Operations.{Pushes, AllPush, piled, sequence_goes}
use Rattle.kts_emit.proofs.TypedConstraints.{TypedLiteral, TypedArgument, TypedBound, TypedHead}
use Rattle.kts_emit.proofs.TypedParts.{few_arguments}
use Rattle.kts_emit.proofs.Variables.{in_scope}

sequence_weight-append : (ns : List ℕ) (n : ℕ) → sequence_weight (ns ++ n ∷ []) ≡ sequence_weight ns + n
sequence_weight-append [] n = omega arith
sequence_weight-append (k ∷ ns) n = omega (arith, sequence_weight-append ns n)

module _ (setup : Setup) (r : Context) (valid : is_valid setup.code.schema setup.inst ≡ true) (above : IsAbove (types (world_in setup)) r.space)
    (ranged : ValuesAreRanged setup.code.schema (world_in setup) r.space) where
  abbrev w : World
  w = world_in setup

  abbrev schema : Schema
  schema = setup.code.schema

  -- one operand more
  all_push_more : (need : ℕ) (scope : List ℕ) (cs : List Fragment) (ns : List ℕ) (vs : List (List ℕ → Operand)) (c : Fragment) (n : ℕ) (v : List ℕ → Operand)
      → AllPush setup r need scope cs ns vs → Pushes setup r c n need scope v → AllPush setup r need scope (cs ++ c ∷ []) (ns ++ n ∷ []) (vs ++ v ∷ [])
  all_push_more need scope [] [] [] c n v all p = (p, tt)
  all_push_more need scope (d ∷ cs) (k ∷ ns) (u ∷ vs) c n v all p = (all.0, all_push_more need scope cs ns vs c n v all.1 p)
  all_push_more need scope cs ns vs c n v all p = absurd all

  piled-append : (vs : List (List ℕ → Operand)) (v : List ℕ → Operand) (vars : List ℕ) (stack : List Operand)
      → piled setup r (vs ++ v ∷ []) vars stack ≡ v vars ∷ piled setup r vs vars stack
  piled-append [] v vars stack = refl
  piled-append (u ∷ vs) v vars stack = piled-append vs v vars (u vars ∷ stack)

  module _ (scope vars : List ℕ) (done fail : ℕ) (le : length scope ≤ most_variables) (stack : List Operand)
      (room : 2 * most_depth + 13 + length stack ≤ setup.code.stack) where
    -- ---- the other literals

    abbrev weights : List Literal → List ℕ
    weights ls = map (literal_weight (size_of w)) ls

    abbrev needs : List Literal → Fragment
    needs ls = chain_rest (i.Need done) (map literal_code ls)

    need_acts : (t : Tri) (p : ℕ) (registers : List Register)
        → act setup 0 (Some (i.Need done)) (core_at r p (Truth t ∷ stack) registers) ≡ core_at r (cond (is_false t) (p + 1) done) stack registers
    need_acts F p registers = refl
    need_acts U p registers = refl
    need_acts T p registers = refl

    -- where one literal is false, the others decide
    decided : (first others : Bool) (s : State) (k n p end : ℕ) → Leads setup r s k scope vars (cond first p done) stack
        → ((registers : List Register) → length registers ≡ most_variables → HasVariables w scope vars registers
        → Leads setup r (at r p stack registers) n scope vars (cond others end done) stack)
        → Leads setup r s (k + n) scope vars (cond (first && others) end done) stack
    decided true others s k n p end a f = next setup r a f
    decided false others s k n p end a f = let more : k ≤ k + n = omega arith in in_more more a

    others_go : (ls : List Literal) (p : ℕ) (registers : List Register) → AllOf (TypedLiteral schema scope) ls
        → HasAt setup.code.instrs p (needs ls p (length scope)) → length registers ≡ most_variables → HasVariables w scope vars registers
        → Leads setup r (at r p stack registers) (chain_rest_weight (weights ls)) scope vars
        (cond (all_false w r.space vars ls) (p + length (needs ls p (length scope))) done) stack
    others_go [] p registers typed has n h =
        let e : p ≡ p + 0 = omega arith in
        ended setup r e (stays setup r scope vars p stack registers n h)
    others_go (l ∷ ls) p registers typed has n h =
        let s = length scope in
        let first = literal_code l p s in
        let q = p + length first in
        let others = needs ls (q + 1) s in
        let t = literal_in w r.space vars l in
        let back = has_back setup.code.instrs p first (i.Need done ∷ others) has in
        let c = literal_pushes setup r valid ranged l scope (2 * most_depth + 10) le typed.0 (omega arith) in
        let a = c.goes vars p stack registers (has_front setup.code.instrs p first (i.Need done ∷ others) has) n h (omega arith) in
        let b = next setup r a
        (λ registers2 n2 h2. steps_to setup r scope vars q (cond (is_false t) (q + 1) done) (Truth t ∷ stack) stack registers2 registers2
        (i.Need done) back.0 refl (need_acts t q registers2) n2 h2) in
        let e : q + 1 + length others ≡ p + length (first ++ i.Need done ∷ others) = omega (arith, length-append first (i.Need done ∷ others)) in
        subst (λ end. Leads setup r (at r p stack registers) (chain_rest_weight (weights (l ∷ ls))) scope vars (cond (all_false w r.space vars (l ∷ ls)) end done) stack) e
        (decided (is_false t) (all_false w r.space vars ls) (at r p stack registers) (literal_weight (size_of w) l + 1) (chain_rest_weight (weights ls)) (q + 1)
        (q + 1 + length others) b (λ registers2 n2 h2. others_go ls (q + 1) registers2 typed.1 back.1 n2 h2))

    -- ---- the head

    abbrev asked_of : Head → Effect
    asked_of h = effect_of r.space (plan.on_cell (head_cell w vars h) (h.op, bound_in w r.space vars h.bound))

    head_goes : (h : Head) → TypedHead schema scope h → (p : ℕ) (registers : List Register) → HasAt setup.code.instrs p (head_code h done fail p (length scope))
        → length registers ≡ most_variables → HasVariables w scope vars registers
        → Ends setup r done fail stack (asked_of h) (at r p stack registers) (head_weight (size_of w) h)
    head_goes h typed p registers has n k =
        let s = length scope in
        let same : choice_of w h.choice ≡ typed.family = get_or_from_slice_get w.choices h.choice typed.family no_family typed.there in
        let family = choice_of w h.choice in
        let args = subst (λ (f : Family). Pairs (TypedArgument schema scope) f.args h.args) (sym same) typed.args in
        let bound = subst (λ (f : Family). TypedBound schema scope h.op f.kind h.bound) (sym same) typed.bound in
        let few = few_arguments (length schema.indexes) schema.choices h.choice typed.family (schema_facts schema).choices typed.there in
        let two : length family.args ≤ most_arguments = subst (λ (f : Family). length f.args ≤ most_arguments) (sym same) few in
        let count = many_arguments setup r valid ranged scope le family.args h.args args in
        let need = 2 * most_depth + 11 in
        let sets = set_values family.args (map (value_in w r.space) h.args) in
        let codes = map term_code h.args ++ bound_code h.bound ∷ [] in
        let last = op_instr h.op h.choice fail ∷ (i.Jump done ∷ []) in
        let front = sequence codes p s in
        let q = p + length front in
        let arg_weights = map (weight_of_term (size_of w)) h.args in
        let b = bound_pushes setup r valid ranged scope (2 * most_depth + 10) le (omega arith) h.op family.kind h.bound bound in
        let bound_codes : Pushes setup r (bound_code h.bound) (bound_weight (size_of w) h.bound) need scope b.operand = b.pushes in
        let all = all_push_more need scope (map term_code h.args) arg_weights sets (bound_code h.bound) (bound_weight (size_of w) h.bound) b.operand
        (arguments_push setup r valid ranged scope le family.args h.args need args (omega arith)) bound_codes in
        let many_codes = length-append (map term_code h.args) (bound_code h.bound ∷ []) in
        let arg_codes = length-map h.args term_code in
        let g = sequence_goes setup r codes (arg_weights ++ bound_weight (size_of w) h.bound ∷ []) (sets ++ b.operand ∷ []) need scope vars p stack registers
        all (has_front setup.code.instrs p front last has) n k (omega arith) in
        let full = b.operand vars ∷ piled setup r sets vars stack in
        let full_run = leaving setup r (piled-append sets b.operand vars stack) g in
        let weight : sequence_weight (arg_weights ++ bound_weight (size_of w) h.bound ∷ []) + 2 ≡ head_weight (size_of w) h =
        ap (λ x. x + 2) (sequence_weight-append arg_weights (bound_weight (size_of w) h.bound)) in
        subst (Ends setup r done fail stack (asked_of h) (at r p stack registers)) weight
        (then_ends setup r done fail stack (asked_of h) full_run
        (λ registers2 n2 k2.
        let inside = in_scope w scope vars registers2 k2 in
        let cell = cell_found setup r valid ranged scope le vars inside h typed.family above typed.there args in
        let d : Demand = (h.op, bound_in w r.space vars h.bound) in
        let acts = head_acts setup r valid ranged scope le vars inside h args q stack registers2 (b.operand vars) (bound_in w r.space vars h.bound) (b.known vars inside) fail
        ∙ ap (on_cell setup (core_at r q full registers2) r.space fail stack d) cell.is in
        let ends = settles setup r done fail cell.number d stack q full registers2 h.op h.choice n2 (has_back setup.code.instrs p front last has) acts in
        let effect = effect_is r.space cell.number d cell.held ∙ ap (λ o. effect_of r.space (plan.on_cell o d)) (sym cell.is) in
        subst (λ f. Ends setup r done fail stack f (at r q full registers2) 2) effect ends))

    -- ---- the body

    pub body_goes : (c : Constraint) → AllOf (TypedLiteral schema scope) c.others → TypedHead schema scope c.head → (p : ℕ) (registers : List Register)
        → HasAt setup.code.instrs p (body_code c done fail p (length scope)) → length registers ≡ most_variables → HasVariables w scope vars registers
        → Ends setup r done fail stack (effect_of r.space (asks w vars r.space c)) (at r p stack registers) (body_weight (size_of w) c)
    body_goes c others head p registers has n k =
        let s = length scope in
        let front = needs c.others p s in
        let back = head_code c.head done fail (p + length front) s in
        by (all_false w r.space vars c.others)
        (others_go c.others p registers others (has_front setup.code.instrs p front back has) n k) (has_back setup.code.instrs p front back has)
      where
        by : (b : Bool) → Leads setup r (at r p stack registers) (chain_rest_weight (weights c.others)) scope vars
            (cond b (p + length (needs c.others p (length scope))) done) stack
            → HasAt setup.code.instrs (p + length (needs c.others p (length scope)))
            (head_code c.head done fail (p + length (needs c.others p (length scope))) (length scope))
            → Ends setup r done fail stack (effect_of r.space (asked b (head_cell w vars c.head) (c.head.op, bound_in w r.space vars c.head.bound)))
            (at r p stack registers) (body_weight (size_of w) c)
        by true a has2 =
            then_ends setup r done fail stack (asked_of c.head) a
            (λ registers2 n2 k2. head_goes c.head head (p + length (needs c.others p (length scope))) registers2 has2 n2 k2)
        by false a has2 =
            let more : chain_rest_weight (weights c.others) + 0 ≤ body_weight (size_of w) c = omega arith in
            in_more more
            (and_then (less_known (quiet_on_the_way setup Kept) a)
            (λ y (h : StandsWith setup r scope vars done stack y). at_once (record { left = h.left; count = h.count; is = h.is })))
