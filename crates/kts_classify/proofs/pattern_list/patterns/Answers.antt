use Rattle.std.proofs.Common.{◌≡◌, sym, ap, ◌∙◌, subst, ◌<◌, ◌++◌, length, arith}
use Rattle.std.proofs.lemmas.List.{length-map}
use Rattle.kts_plan.specs.Constraints.{constraint_of}
use Rattle.kts_classify.specs.PlanPatterns.{constraint_patterns, constraints_in, definite_at}
use Rattle.kts_classify.proofs.HeadLists.{numbered_step, numbered_all, at_map}
use Rattle.kts_classify.proofs.PlanFacts.{own_item}
use Rattle.kts_classify.proofs.pattern_list.patterns.Goals as goal

pub loop-number-preserved : goal.loop-number-preserved
loop-number-preserved c =
    let plan = c.args.plan.now in
    let made = constraint_of plan.clauses in
    let cs = constraints_in plan in
    let k = c.loop-number.number in
    let x = made (definite_at plan.definites k) in
    let here : k < length plan.definites = let test = c.loop-number-test.true in let count = c.len-number-end.ensures in let same = ap length c.definites.ensures in omega (arith, test, count, same) in
    let there : k < length cs = subst (λ n. k < n) (sym (length-map plan.definites made)) here in
    let is = sym (at_map made plan.definites k (definite_at plan.definites k) x here (own_item plan.definites k _ here)) in
    c.in_ok-add_constraint.ensures ∙ ap (λ ps. ps ++ constraint_patterns (k, x)) c.loop-number.invariant ∙ sym (numbered_step constraint_patterns cs k x there is)

pub returns : goal.returns
returns c =
    let plan = c.args.plan.now in
    let end : c.loop-number.number ≡ length (constraints_in plan) =
    let at_end = c.loop-number-test.false in
    let within = c.loop-number.auto in
    let count = c.len-number-end.ensures in
    let same = ap length c.definites.ensures in
    let long = length-map plan.definites (constraint_of plan.clauses) in
    omega (arith, at_end, within.number-end, count, same, long) in
    c.new.ensures ∙ c.loop-number.invariant ∙ numbered_all constraint_patterns (constraints_in plan) c.loop-number.number end
