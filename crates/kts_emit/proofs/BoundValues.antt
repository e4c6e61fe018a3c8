-- The code of literals and of bounds pushes their abstract values.
use Rattle.std.proofs.Common.{◌≡◌, ℕ, suc, ◌+◌, ◌*◌, ◌<◌, ◌≤◌, List, [], ◌∷◌, ◌++◌, length, Bool, true, false, Some, None, cond, refl, sym, ap, ◌∙◌, arith, length-append, nat_eq}
use Rattle.std.specs.Prelude.{pos, ◌≤ℤ◌, int_le}
use Rattle.std.proofs.lemmas.Bool.{and_from}
use Rattle.std.proofs.lemmas.Int.{ints}
use Rattle.kts_abs.specs.declared.demand.Op.{Op}
use Rattle.kts_abs.specs.declared.demand.Op.TheVariants.{AtLeast, AtMost, Within, Without}
use Rattle.kts_abs.specs.declared.truth.Tri.{Tri}
use Rattle.kts_abs.specs.InSpace.{in_space, value_in, truth_in}
use Rattle.kts_abs.specs.Ranged.{IsSetIn, ValuesAreRanged}
use Rattle.kts_abs.specs.Values.{Abs, Win as window_value, Mem, window_of, members_of}
use Rattle.kts_abs.specs.Windows.{Window, fitted, sum_of, difference_of}
use Rattle.kts_base.specs.Limits.{most_variables, most_depth, most_addends}
use Rattle.kts_base.proofs.Orders.{yes_int_le}
use Rattle.kts_clause.specs.declared.literal.Literal.{Literal}
use Rattle.kts_clause.specs.ClauseTruth.{signed}
use Rattle.kts_code.specs.declared.instructions.Instr.TheVariants.{Num, Sub}
use Rattle.kts_code.specs.HeadSteps.{bound_of}
use Rattle.kts_code.specs.Machine.{act}
use Rattle.kts_code.specs.Setups.{Setup, world_in}
use Rattle.kts_code.specs.States.{Operand, Win, Set, Truth, Register, operand_of}
use Rattle.kts_code.proofs.Places.{HasAt, has_front, has_back}
use Rattle.kts_code.proofs.Runs.{is_inner}
use Rattle.kts_plan.specs.declared.bound.Bound.{Bound}
use Rattle.kts_plan.specs.declared.bound.Bound.TheVariants.{Rest, Side}
use Rattle.kts_plan.specs.Asks.{with_addend, literal_in, sum_in, bound_in}
use Rattle.kts_semi.specs.Ends.{min_end, max_end, in_limits}
use Rattle.kts_spec.specs.declared.declarations.ValueType.{ValueType}
use Rattle.kts_spec.specs.declared.declarations.ValueType.TheVariants.{Int, Member}
use Rattle.kts_spec.specs.declared.schema.Schema.{Schema}
use Rattle.kts_spec.specs.declared.tree.Term.{Term}
use Rattle.kts_spec.specs.Data.{is_valid}
use Rattle.kts_spec.specs.Related.{AllOf}
use Rattle.kts_spec.specs.Sizes.{size_of_term}
use Rattle.kts_spec.specs.TypedValues.{InScope}
use Rattle.kts_spec.specs.Typing.{Kind, Whole, MemberOf, kind_of}
use Rattle.kts_spec.specs.Worlds.{World, size_of}
use Rattle.kts_emit.specs.Fragments.{Fragment, operation}
use Rattle.kts_emit.specs.Bodies.{signed_code, literal_code, first_code, sign_instr, later_code, sum_code, bound_code}
use Rattle.kts_emit.specs.BodyWeights.{sign_weight, first_weight, literal_weight, later_weight, sum_weight, bound_weight}
use Rattle.kts_emit.specs.Codes.{term_code, formula_code}
use Rattle.kts_emit.specs.Pushes.{HasVariables}
use Rattle.kts_emit.specs.Weights.{weight_of_term, weight_of_formula}
use Rattle.kts_emit.proofs.Accesses.{index_equals, number_pushes}
use Rattle.kts_emit.proofs.Chains.{zero_sum}
use Rattle.kts_emit.proofs.CodeRuns.{term_pushes, formula_pushes}
use Rattle.kts_emit.proofs.Contexts.{Context, core_at, at, Leads, next, ended, leaving, stays, steps_to}
use Rattle.kts_emit.proofs.Instructions.{two_push, wins, not_pushes, fitted_pushed, sub_makes}
use Rattle.kts_emit.proofs.Operations.{Pushes, more_room}
use Rattle.kts_emit.proofs.SumFits.{Reached, reached_none, reached_sum}
use Rattle.kts_emit.proofs.TermForms.{reached}
use Rattle.kts_emit.proofs.TypedConstraints.{TypedLiteral, TypedAddend, TypedSum, TypedSide, TypedBound}
use Rattle.kts_emit.proofs.Variables.{in_scope}

-- ---- windows of signed sums

reached_difference : (terms : ℕ) (v u : Window) → Reached terms v → Reached 1 u → Reached (suc terms) (difference_of v u)
reached_difference terms v u h i =
    record { low = omega (arith, ints, h.low, i.high); high = omega (arith, ints, h.high, i.low); solid = omega (arith, ints, h.solid, i.solid) }

reached_signed : (minus : Bool) (terms : ℕ) (v u : Window) → Reached terms v → Reached 1 u → Reached (suc terms) (with_addend v minus u)
reached_signed false terms v u h i = reached_sum terms v u h i
reached_signed true terms v u h i = reached_difference terms v u h i

-- such a window is within the machine's ends
window_fits : (terms : ℕ) (v : Window) → Reached terms v → terms ≤ suc most_addends → fitted v ≡ Some v
window_fits terms v h few =
    let low : min_end ≤ℤ v.0 = omega (arith, ints, h.low, few) in
    let high : v.1 ≤ℤ max_end = omega (arith, ints, h.high, few) in
    let rises : v.0 ≤ℤ v.1 = h.solid in
    let a : in_limits v.0 ≡ true =
    and_from (int_le min_end v.0) (int_le v.0 max_end) (yes_int_le min_end v.0 low) (yes_int_le v.0 max_end (omega (arith, ints))) in
    let b : in_limits v.1 ≡ true =
    and_from (int_le min_end v.1) (int_le v.1 max_end) (yes_int_le min_end v.1 (omega (arith, ints))) (yes_int_le v.1 max_end high) in
    ap (λ t. cond t (Some v) None) (and_from (in_limits v.0) (in_limits v.1) a b)

-- ---- what codes push

module _ (setup : Setup) (r : Context) (valid : is_valid setup.code.schema setup.inst ≡ true)
    (ranged : ValuesAreRanged setup.code.schema (world_in setup) r.space) where
  abbrev w : World
  w = world_in setup

  abbrev schema : Schema
  schema = setup.code.schema

  abbrev Over : Fragment → ℕ → ℕ → List ℕ → (List ℕ → Operand) → Type 0
  Over = Pushes setup r

  pub typed_pushes : (t : Term) (scope : List ℕ) (k : Kind) (need : ℕ) → length scope ≤ most_variables → kind_of schema t scope ≡ Some k
      → (size_of_term t).depth ≤ most_depth → 2 * most_depth + 10 ≤ need
      → Over (term_code t) (weight_of_term (size_of w) t) need scope (λ vars. operand_of k (value_in w r.space t vars))
  typed_pushes t scope k need le typed flat room = term_pushes setup r valid ranged t scope k need le typed (omega arith)

  -- ---- literals

  signed_pushes : (negative : Bool) (code : Fragment) (weight need : ℕ) (scope : List ℕ) (t : List ℕ → Tri) → 1 ≤ need
      → Over code weight need scope (λ vars. Truth (t vars))
      → Over (signed_code negative code) (weight + sign_weight negative) need scope (λ vars. Truth (signed (size_of w) (in_space w r.space) negative (t vars)))
  signed_pushes false code weight need scope t some h =
      let e : weight ≡ weight + 0 = omega arith in
      let same : need ≤ need = omega arith in
      more_room setup r e same h
  signed_pushes true code weight need scope t some h =
      let e : weight + 0 + 1 ≡ weight + 1 = omega arith in
      let same : need ≤ need = omega arith in
      more_room setup r e same (not_pushes setup r code weight need scope t h some)

  pub literal_pushes : (l : Literal) (scope : List ℕ) (need : ℕ) → length scope ≤ most_variables → TypedLiteral schema scope l
      → 2 * most_depth + 10 ≤ need
      → Over (literal_code l) (literal_weight (size_of w) l) need scope (λ vars. Truth (literal_in w r.space vars l))
  literal_pushes l scope need le h room =
      let flat = h.flat in
      signed_pushes l.negative (formula_code l.formula) (weight_of_formula (size_of w) l.formula) need scope (truth_in w r.space l.formula) (omega arith)
      (formula_pushes setup r valid ranged l.formula scope need le h.typed (omega arith))

  -- ---- signed sums

  abbrev number_of : Term → List ℕ → Window
  number_of t vars = window_of (value_in w r.space t vars)

  sign_inner : (minus : Bool) → is_inner (Some (sign_instr minus)) ≡ true
  sign_inner false = refl
  sign_inner true = refl

  sign_acts : (minus : Bool) (v u : Window) (p : ℕ) (stack : List Operand) (registers : List Register)
      → fitted (with_addend v minus u) ≡ Some (with_addend v minus u) → length stack < setup.code.stack
      → act setup 0 (Some (sign_instr minus)) (core_at r p (Win u ∷ (Win v ∷ stack)) registers) ≡ core_at r (p + 1) (Win (with_addend v minus u) ∷ stack) registers
  sign_acts false v u p stack registers fits less = fitted_pushed setup r p (Win u ∷ (Win v ∷ stack)) stack registers (sum_of v u) fits less
  sign_acts true v u p stack registers fits less = fitted_pushed setup r p (Win u ∷ (Win v ∷ stack)) stack registers (difference_of v u) fits less

  module _ (scope : List ℕ) (need : ℕ) (le : length scope ≤ most_variables) (room : 2 * most_depth + 10 ≤ need) where
    later_goes : (xs : List (Bool × Term)) (v : Window) (terms : ℕ) (vars : List ℕ) (p : ℕ) (stack : List Operand) (registers : List Register)
        → AllOf (TypedAddend schema scope) xs → Reached terms v → terms + length xs ≤ suc most_addends
        → HasAt setup.code.instrs p (later_code xs p (length scope)) → length registers ≡ most_variables → HasVariables w scope vars registers
        → need + 1 + length stack ≤ setup.code.stack
        → Leads setup r (at r p (Win v ∷ stack) registers) (later_weight (size_of w) xs) scope vars (p + length (later_code xs p (length scope)))
        (Win (sum_in w r.space vars v xs) ∷ stack)
    later_goes [] v terms vars p stack registers typed h few has n k free =
        let e : p ≡ p + 0 = omega arith in
        ended setup r e (stays setup r scope vars p (Win v ∷ stack) registers n k)
    later_goes (a ∷ xs) v terms vars p stack registers typed h few has n k free =
        let s = length scope in
        let first = term_code a.1 p s in
        let q = p + length first in
        let others = later_code xs (q + 1) s in
        let i = sign_instr a.0 in
        let back = has_back setup.code.instrs p first (i ∷ others) has in
        let t = typed.0 in
        let u = number_of a.1 vars in
        let more = reached_signed a.0 terms v u h (reached setup r valid ranged a.1 scope vars t.range (in_scope w scope vars registers k) t.typed) in
        let fits = window_fits (suc terms) (with_addend v a.0 u) more (omega arith) in
        let c = typed_pushes a.1 scope (Whole t.range) need le t.typed t.flat room in
        let b = c.goes vars p (Win v ∷ stack) registers (has_front setup.code.instrs p first (i ∷ others) has) n k (omega arith) in
        let d = next setup r b
        (λ registers2 n2 k2. steps_to setup r scope vars q (q + 1) (Win u ∷ (Win v ∷ stack)) (Win (with_addend v a.0 u) ∷ stack)
        registers2 registers2 i back.0 (sign_inner a.0) (sign_acts a.0 v u q stack registers2 fits (omega arith)) n2 k2) in
        let g = next setup r d
        (λ registers2 n2 k2. later_goes xs (with_addend v a.0 u) (suc terms) vars (q + 1) stack registers2 typed.1 more (omega arith) back.1 n2 k2 free) in
        let e : q + 1 + length others ≡ p + length (first ++ i ∷ others) = omega (arith, length-append first (i ∷ others)) in
        ended setup r e g

    -- the first addend, added to 0 or taken away from it
    first_pushes : (minus : Bool) (t : Term) → Over (term_code t) (weight_of_term (size_of w) t) need scope (wins setup r (number_of t))
        → ((vars : List ℕ) → InScope w scope vars → fitted (difference_of (pos 0, pos 0) (number_of t vars)) ≡ Some (difference_of (pos 0, pos 0) (number_of t vars)))
        → Over (first_code minus (term_code t)) (weight_of_term (size_of w) t + first_weight minus) (need + 1) scope
        (λ vars. Win (with_addend (pos 0, pos 0) minus (number_of t vars)))
    first_pushes false t h fits =
        let e : weight_of_term (size_of w) t ≡ weight_of_term (size_of w) t + 0 = omega arith in
        let more : need ≤ need + 1 = omega arith in
        let there = more_room setup r e more h in
        record { goes = λ vars p stack registers has n k free. leaving setup r (ap (λ z. Win z ∷ stack) (sym (zero_sum (number_of t vars)))) (there.goes vars p stack registers has n k free) }
    first_pushes true t h fits =
        let e : 1 + (weight_of_term (size_of w) t + 0) + 1 ≡ weight_of_term (size_of w) t + 2 = omega arith in
        let same : need + 1 ≤ need + 1 = omega arith in
        let zero_at : List ℕ → Window = λ vars. (pos 0, pos 0) in
        more_room setup r e same
        (two_push setup r (operation [] (Num (pos 0) ∷ [])) (term_code t) 1 (weight_of_term (size_of w) t) (wins setup r zero_at) (wins setup r (number_of t))
        (λ vars. Win (difference_of (pos 0, pos 0) (number_of t vars))) Sub need (need + 1) scope
        (number_pushes setup r (pos 0) need scope (omega arith)) h (sub_makes setup r scope zero_at (number_of t) fits) (omega arith) (omega arith))

    sum_pushes : (xs : List (Bool × Term)) → TypedSum schema scope xs
        → Over (sum_code xs) (sum_weight (size_of w) xs) (need + 1) scope (λ vars. Win (sum_in w r.space vars (pos 0, pos 0) xs))
    sum_pushes [] h = number_pushes setup r (pos 0) (need + 1) scope (omega arith)
    sum_pushes (a ∷ xs) h =
        let t = h.each.0 in
        let many = h.few in
        let one = λ (vars : List ℕ) (inside : InScope w scope vars). reached setup r valid ranged a.1 scope vars t.range inside t.typed in
        let first = first_pushes a.0 a.1 (typed_pushes a.1 scope (Whole t.range) need le t.typed t.flat room)
        (λ vars inside. window_fits 1 (difference_of (pos 0, pos 0) (number_of a.1 vars))
        (reached_difference 0 (pos 0, pos 0) (number_of a.1 vars) reached_none (one vars inside)) (omega arith)) in
        record {
          goes = λ vars p stack registers has n k free.
              let s = length scope in
              let front = first_code a.0 (term_code a.1) p s in
              let others = later_code xs (p + length front) s in
              let u = with_addend (pos 0, pos 0) a.0 (number_of a.1 vars) in
              let b = first.goes vars p stack registers (has_front setup.code.instrs p front others has) n k free in
              let g = next setup r b
              (λ registers2 n2 k2. later_goes xs u 1 vars (p + length front) stack registers2 h.each.1
              (reached_signed a.0 0 (pos 0, pos 0) (number_of a.1 vars) reached_none (one vars (in_scope w scope vars registers k))) (omega arith)
              (has_back setup.code.instrs p front others has) n2 k2 free) in
              let e : p + length front + length others ≡ p + length (front ++ others) = omega (arith, length-append front others) in
              ended setup r e g;
        }

    -- ---- bounds

    -- the operand that the code of a bound pushes, which a head's step takes for the bound
    pub record BoundPushes (op : Op) (kind : ValueType) (b : Bound) : Type 0 where
      pub operand : List ℕ → Operand
      pub pushes : Over (bound_code b) (bound_weight (size_of w) b) (need + 1) scope operand
      pub known : (vars : List ℕ) → InScope w scope vars → bound_of op kind (operand vars) ≡ Some (bound_in w r.space vars b)

    side_pushes : (i : ℕ) (t : Term) → TypedSide schema scope i t
        → Over (term_code t) (weight_of_term (size_of w) t) (need + 1) scope (λ vars. Set i (members_of (value_in w r.space t vars)))
    side_pushes i t h = typed_pushes t scope (MemberOf i) (need + 1) le h.typed h.flat (omega arith)

    set_is : (size : ℕ) (a : Abs) → IsSetIn size a → Mem (members_of a) ≡ a
    set_is size (Mem ms) h = refl
    set_is size (window_value v) h = let e = h.is in cc

    side_known : (i : ℕ) (t : Term) → TypedSide schema scope i t → (vars : List ℕ) → InScope w scope vars
        → cond (nat_eq i i) (Some (Mem (members_of (value_in w r.space t vars)))) None ≡ Some (value_in w r.space t vars)
    side_known i t h vars inside =
        ap (λ b. cond b (Some (Mem (members_of (value_in w r.space t vars)))) None) (index_equals i)
        ∙ ap Some (set_is (size_of w i) (value_in w r.space t vars) (ranged.member scope vars inside t i h.typed))

    pub bound_pushes : (op : Op) (kind : ValueType) (b : Bound) → TypedBound schema scope op kind b → BoundPushes op kind b
    bound_pushes AtLeast (Int lo hi) (Rest xs) h =
        record { operand = λ vars. Win (sum_in w r.space vars (pos 0, pos 0) xs); pushes = sum_pushes xs h; known = λ vars inside. refl }
    bound_pushes AtMost (Int lo hi) (Rest xs) h =
        record { operand = λ vars. Win (sum_in w r.space vars (pos 0, pos 0) xs); pushes = sum_pushes xs h; known = λ vars inside. refl }
    bound_pushes Within (Member i) (Side t) h =
        record { operand = λ vars. Set i (members_of (value_in w r.space t vars)); pushes = side_pushes i t h; known = side_known i t h }
    bound_pushes Without (Member i) (Side t) h =
        record { operand = λ vars. Set i (members_of (value_in w r.space t vars)); pushes = side_pushes i t h; known = side_known i t h }
    bound_pushes op kind b h = absurd h
