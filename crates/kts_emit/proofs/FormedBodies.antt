-- Each instruction of the body of a well typed constraint is well formed.
use Rattle.std.proofs.Common.{◌≡◌, ℕ, ◌+◌, ◌<◌, ◌≤◌, List, [], ◌∷◌, ◌++◌, length, map, Bool, true, false, ◌&&◌, refl, arith, length-append}
use Rattle.std.specs.Prelude.{pos, nat_lt}
use Rattle.std.proofs.lemmas.Bool.{and_from}
use Rattle.std.proofs.lemmas.Option.{slice_get_within}
use Rattle.kts_abs.specs.declared.demand.Op.{Op}
use Rattle.kts_abs.specs.declared.demand.Op.TheVariants.{AtLeast, AtMost, Within, Without}
use Rattle.kts_base.specs.Limits.{most_variables}
use Rattle.kts_base.proofs.Orders.{yes_nat_lt}
use Rattle.kts_clause.specs.declared.literal.Literal.{Literal}
use Rattle.kts_code.specs.declared.instructions.Instr.{Instr}
use Rattle.kts_code.specs.declared.instructions.Instr.TheVariants as i
use Rattle.kts_code.specs.WellFormed.{is_choice, is_instr}
use Rattle.kts_plan.specs.declared.bound.Bound.{Bound}
use Rattle.kts_plan.specs.declared.bound.Bound.TheVariants.{Rest, Side}
use Rattle.kts_plan.specs.declared.head.Head.{Head}
use Rattle.kts_plan.specs.Constraints.{Constraint}
use Rattle.kts_spec.specs.declared.declarations.ValueType.{ValueType}
use Rattle.kts_spec.specs.declared.declarations.ValueType.TheVariants.{Int, Member}
use Rattle.kts_spec.specs.declared.schema.Schema.{Schema}
use Rattle.kts_spec.specs.declared.tree.Term.{Term}
use Rattle.kts_spec.specs.Related.{AllOf, Pairs}
use Rattle.kts_spec.specs.Typing.{Whole, MemberOf}
use Rattle.kts_emit.specs.Fragments.{Fragment, sequence, operation, chain_rest, begun}
use Rattle.kts_emit.specs.Bodies.{followed, signed_code, literal_code, first_code, sign_instr, later_code, sum_code, bound_code, op_instr, head_code, body_code}
use Rattle.kts_emit.specs.Codes.{term_code, formula_code}
use Rattle.kts_emit.specs.WellFormedBodies.{BodiesAreWellFormed}
use Rattle.kts_emit.proofs.FormedCode.{are_formed, both_formed, Formed, AllFormed, sequence_formed, operation_formed, chain_rest_formed, term_formed, formula_formed}
use Rattle.kts_emit.proofs.SpecConstraints.{constraint_typed}
use Rattle.kts_emit.proofs.TypedConstraints.{TypedLiteral, TypedAddend, TypedSum, TypedArgument, TypedBound, TypedHead}

module _ (schema : Schema) (places : ℕ) where
  followed_formed : (code next : Fragment) (n : ℕ) → Formed schema places code n → Formed schema places next n → Formed schema places (followed code next) n
  followed_formed code next n h k = record {
    is = λ place less.
        let c = code place n in
        let rest = next (place + length c) n in
        both_formed schema places c rest (h.is place (omega (arith, length-append c rest))) (k.is (place + length c) (omega (arith, length-append c rest)));
  }

  begun_formed : (start : Instr) (code : Fragment) (n : ℕ) → is_instr schema places start ≡ true → Formed schema places code n
      → Formed schema places (begun start code) n
  begun_formed start code n s h = record {
    is = λ place less. and_from (is_instr schema places start) (are_formed schema places (code (place + 1) n)) s (h.is (place + 1) (omega arith));
  }

  signed_formed : (negative : Bool) (code : Fragment) (n : ℕ) → Formed schema places code n → Formed schema places (signed_code negative code) n
  signed_formed false code n h = h
  signed_formed true code n h = operation_formed schema places (code ∷ []) (i.Not ∷ []) n (h, tt) refl

  number_formed : (n : ℕ) → Formed schema places (operation [] (i.Num (pos 0) ∷ [])) n
  number_formed n = operation_formed schema places [] (i.Num (pos 0) ∷ []) n tt refl

  first_formed : (minus : Bool) (code : Fragment) (n : ℕ) → Formed schema places code n → Formed schema places (first_code minus code) n
  first_formed false code n h = h
  first_formed true code n h =
      operation_formed schema places (operation [] (i.Num (pos 0) ∷ []) ∷ code ∷ []) (i.Sub ∷ []) n (number_formed n, (h, tt)) refl

  sign_formed : (minus : Bool) → is_instr schema places (sign_instr minus) ≡ true
  sign_formed false = refl
  sign_formed true = refl

  all_formed_more : (cs : List Fragment) (c : Fragment) (n : ℕ) → AllFormed schema places cs n → Formed schema places c n → AllFormed schema places (cs ++ c ∷ []) n
  all_formed_more [] c n h k = (k, tt)
  all_formed_more (d ∷ cs) c n h k = (h.0, all_formed_more cs c n h.1 k)

  module _ (scope : List ℕ) (few : length scope ≤ most_variables) where
    literals_formed : (ls : List Literal) → AllOf (TypedLiteral schema scope) ls → AllFormed schema places (map literal_code ls) (length scope)
    literals_formed [] h = tt
    literals_formed (l ∷ ls) h =
        (signed_formed l.negative (formula_code l.formula) (length scope) (formula_formed schema places l.formula scope few h.0.typed), literals_formed ls h.1)

    arguments_formed : (is : List ℕ) (ts : List Term) → Pairs (TypedArgument schema scope) is ts → AllFormed schema places (map term_code ts) (length scope)
    arguments_formed [] [] h = tt
    arguments_formed [] (t ∷ ts) h = absurd h
    arguments_formed (index ∷ is) [] h = absurd h
    arguments_formed (index ∷ is) (t ∷ ts) h = (term_formed schema places t scope (MemberOf index) few h.0.typed, arguments_formed is ts h.1)

    later_formed : (xs : List (Bool × Term)) → AllOf (TypedAddend schema scope) xs → Formed schema places (later_code xs) (length scope)
    later_formed [] h = record { is = λ place less. refl }
    later_formed (a ∷ xs) h =
        let t = h.0 in
        followed_formed (term_code a.1) (begun (sign_instr a.0) (later_code xs)) (length scope) (term_formed schema places a.1 scope (Whole t.range) few t.typed)
        (begun_formed (sign_instr a.0) (later_code xs) (length scope) (sign_formed a.0) (later_formed xs h.1))

    sum_formed : (xs : List (Bool × Term)) → TypedSum schema scope xs → Formed schema places (sum_code xs) (length scope)
    sum_formed [] h = number_formed (length scope)
    sum_formed (a ∷ xs) h =
        let t = h.each.0 in
        followed_formed (first_code a.0 (term_code a.1)) (later_code xs) (length scope)
        (first_formed a.0 (term_code a.1) (length scope) (term_formed schema places a.1 scope (Whole t.range) few t.typed)) (later_formed xs h.each.1)

    bound_formed : (op : Op) (kind : ValueType) (b : Bound) → TypedBound schema scope op kind b → Formed schema places (bound_code b) (length scope)
    bound_formed AtLeast (Int lo hi) (Rest xs) h = sum_formed xs h
    bound_formed AtMost (Int lo hi) (Rest xs) h = sum_formed xs h
    bound_formed Within (Member index) (Side t) h = term_formed schema places t scope (MemberOf index) few h.typed
    bound_formed Without (Member index) (Side t) h = term_formed schema places t scope (MemberOf index) few h.typed
    bound_formed op kind b h = absurd h

    op_formed : (op : Op) (x fail : ℕ) → (is_choice schema x && nat_lt fail places) ≡ true → is_instr schema places (op_instr op x fail) ≡ true
    op_formed AtLeast x fail h = h
    op_formed AtMost x fail h = h
    op_formed Within x fail h = h
    op_formed Without x fail h = h

    head_formed : (h : Head) → TypedHead schema scope h → (done fail place : ℕ) → done < places → fail < places
        → place + length (head_code h done fail place (length scope)) ≤ places → are_formed schema places (head_code h done fail place (length scope)) ≡ true
    head_formed h typed done fail place back out less =
        let codes = map term_code h.args ++ bound_code h.bound ∷ [] in
        let front = sequence codes place (length scope) in
        let last = op_instr h.op h.choice fail ∷ (i.Jump done ∷ []) in
        let long = length-append front last in
        let all = all_formed_more (map term_code h.args) (bound_code h.bound) (length scope) (arguments_formed typed.family.args h.args typed.args)
        (bound_formed h.op typed.family.kind h.bound typed.bound) in
        let declared = yes_nat_lt h.choice (length schema.choices) (slice_get_within schema.choices h.choice typed.family typed.there) in
        let step = op_formed h.op h.choice fail (and_from (is_choice schema h.choice) (nat_lt fail places) declared (yes_nat_lt fail places out)) in
        let jump = and_from (nat_lt done places) true (yes_nat_lt done places back) refl in
        both_formed schema places front last (sequence_formed schema places codes (length scope) place all (omega arith))
        (and_from (is_instr schema places (op_instr h.op h.choice fail)) (are_formed schema places (i.Jump done ∷ [])) step jump)

    pub body_formed : (c : Constraint) → AllOf (TypedLiteral schema scope) c.others → TypedHead schema scope c.head → (done fail place : ℕ) → done < places → fail < places
        → place + length (body_code c done fail place (length scope)) ≤ places → are_formed schema places (body_code c done fail place (length scope)) ≡ true
    body_formed c others head done fail place back out less =
        let needs = chain_rest (i.Need done) (map literal_code c.others) place (length scope) in
        let step = head_code c.head done fail (place + length needs) (length scope) in
        let operands = sequence (map term_code c.head.args ++ bound_code c.head.bound ∷ []) (place + length needs) (length scope) in
        let long = length-append needs step in
        let two = length-append operands (op_instr c.head.op c.head.choice fail ∷ (i.Jump done ∷ [])) in
        both_formed schema places needs step
        (chain_rest_formed schema places (i.Need done) (map literal_code c.others) (length scope) place (yes_nat_lt done places back) (literals_formed c.others others) (omega arith))
        (head_formed c.head head done fail (place + length needs) back out (omega arith))

pub bodies_are_well_formed : BodiesAreWellFormed
bodies_are_well_formed spec schema same d c e done fail place places back out less =
    let typed = constraint_typed spec schema same d c e in
    body_formed schema places c.prefix typed.few c typed.others typed.head done fail place back out less
