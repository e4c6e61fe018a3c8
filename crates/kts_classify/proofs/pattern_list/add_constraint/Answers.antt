use Rattle.std.proofs.Common.{◌≡◌, sym, ap, ◌∙◌, subst, ◌≤◌, ◌++◌, length, map, get_or, arith}
use Rattle.std.specs.Prelude.{flat_map}
use Rattle.std.proofs.lemmas.Result.{on_ok_weaker}
use Rattle.kts_clause.specs.declared.literal.Literal.{Literal}
use Rattle.kts_plan.specs.Constraints.{Constraint}
use Rattle.kts_plan.specs.Heads.{all_but}
use Rattle.kts_plan.specs.TaskReads.{bound_reads}
use Rattle.kts_plan.specs.declared.head.Head.{Head}
use Rattle.kts_spec.specs.Reads.{reads_in}
use Rattle.kts_classify.specs.PlanPatterns.{access_pattern, constraint_patterns, extended}
use Rattle.kts_classify.proofs.Extensions.{still_begun}
use Rattle.kts_classify.proofs.PlanFacts.{few_definites, is_named, constraint_is, patterns_are}
use Rattle.kts_classify.proofs.pattern_list.add_constraint.Goals as goal

pub bounds-as_slice-clause : goal.bounds-as_slice-clause
bounds-as_slice-clause c =
    let plan = c.args.plan.now in
    let d = c.index-as_slice-number.result in
    let same = c.as_slice.ensures ∙ c.definites.ensures in
    let named = is_named plan c.args.number d c.requires (subst (λ ds. d ≡ get_or ds c.args.number d) same c.index-as_slice-number.is) in
    let lt = named.clause in
    let long = ap length (c.as_slice-2.ensures ∙ c.clauses.ensures) in
    let number = c.clause.ensures in
    omega (arith, lt, long, number)

pub overflow_cast-reader : goal.overflow_cast-reader
overflow_cast-reader c = let few = few_definites c.args.plan.now in let here = c.requires in omega (arith, few, here)

pub add_others-requires-clause-named : goal.add_others-requires-clause-named
add_others-requires-clause-named c =
    let plan = c.args.plan.now in
    let d = c.index-as_slice-number.result in
    let x = c.index-as_slice-clause.result in
    let same = c.as_slice.ensures ∙ c.definites.ensures in
    let named = is_named plan c.args.number d c.requires (subst (λ ds. d ≡ get_or ds c.args.number d) same c.index-as_slice-number.is) in
    let there = c.index-as_slice-clause.is ∙ ap (λ xs. get_or xs c.clause.result x) (c.as_slice-2.ensures ∙ c.clauses.ensures) ∙ ap (λ n. get_or plan.clauses n x) c.clause.ensures in
    let lt = named.literal x there in
    let long = ap length (c.as_slice-literals.ensures ∙ c.literals.ensures) in
    let number = c.literal.ensures in
    omega (arith, lt, long, number)

pub add_bound-requires : goal.add_bound-requires
add_bound-requires c =
    let begun : c.len-2.result ≤ length c.args.patterns.now = let e = c.len-2.ensures in omega (arith, e) in
    still_begun c.len-2.result c.args.patterns.now c.add_others.new.patterns _ begun c.in_ok-add_others.ensures

pub returns : goal.returns
returns c =
    let plan = c.args.plan.now in
    let number = c.args.number in
    let d = c.index-as_slice-number.result in
    let x = c.index-as_slice-clause.result in
    let is : d ≡ get_or plan.definites number d = subst (λ ds. d ≡ get_or ds number d) (c.as_slice.ensures ∙ c.definites.ensures) c.index-as_slice-number.is in
    let there = c.index-as_slice-clause.is ∙ ap (λ xs. get_or xs c.clause.result x) (c.as_slice-2.ensures ∙ c.clauses.ensures) ∙ ap (λ n. get_or plan.clauses n x) c.clause.ensures in
    let old = c.args.patterns.now in
    let first = c.len-2.result in
    let f = access_pattern number c.len.result in
    let R = λ (l : Literal). reads_in l.formula in
    let made : Constraint = record { prefix = x.prefix; others = all_but d.literal x.literals; head = d.head } in
    let others = ap (all_but c.literal.result) (c.as_slice-literals.ensures ∙ c.literals.ensures) ∙ ap (λ k. all_but k x.literals) c.literal.ensures in
    let front = c.in_ok-add_others.ensures ∙ ap (λ ls. extended first old (map f (flat_map R ls))) others in
    let bound = c.bound.ensures ∙ ap (λ (h : Head). h.bound) c.head.ensures in
    let long = c.len.ensures ∙ ap length c.prefix.ensures in
    on_ok_weaker c.add_bound.result (λ e.
    patterns_are old c.add_others.new.patterns c.add_bound.new.patterns number c.len.result first made c.len-2.ensures long front (e ∙ ap (λ b. extended first c.add_others.new.patterns (map f (bound_reads b))) bound)
    ∙ ap (λ y. old ++ constraint_patterns (number, y)) (sym (constraint_is plan number d x c.requires is there))) c.add_bound.ensures
