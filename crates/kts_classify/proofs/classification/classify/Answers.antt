use Rattle.std.proofs.Common.{◌≡◌, sym, ap, ◌∙◌, ◌∷◌, [], ◌++◌, length, nat_eq, if◌then◌else◌, arith}
use Rattle.kts_plan.specs.PlanNumbers.{is_plan}
use Rattle.kts_plan.specs.Plans.{clauses_of_spec, definites_of_clause, definites_of}
use Rattle.kts_classify.proofs.HeadLists.{numbered_step}
use Rattle.kts_classify.proofs.PlanCounts.{few_clauses, item_literals, plan_is}
use Rattle.kts_classify.proofs.ResidualNumbers.{residual_number, residual_is, definites_end, residuals_end}
use Rattle.kts_classify.proofs.classification.classify.Goals as goal

pub overflow_cast-number : goal.overflow_cast-number
overflow_cast-number c =
    let same = ap length (c.as_slice-clause-items.ensures ∙ c.in_ok-clauses.ensures) in
    let few = few_clauses c.args.spec.now in
    let here = c.loop-number-test.true in
    omega (arith, same, few, here)

pub add_definites-requires : goal.add_definites-requires
add_definites-requires c =
    item_literals c.args.spec.now c.as_slice-clause-items.result.now c.loop-number.number c.clause-item.result (c.as_slice-clause-items.ensures ∙ c.in_ok-clauses.ensures) c.loop-number-test.true c.clause-item.is

pub overflow_cast-number-in-loop-number : goal.overflow_cast-number-in-loop-number
overflow_cast-number-in-loop-number c =
    let same = ap length (c.as_slice-clause-items.ensures ∙ c.in_ok-clauses.ensures) in
    let few = few_clauses c.args.spec.now in
    let here = c.loop-number-test.true in
    omega (arith, same, few, here)

pub loop-number-preserved : goal.loop-number-preserved
loop-number-preserved c =
    let k = c.loop-number.number in
    let item = c.clause-item.result in
    let items = c.as_slice-clause-items.result.now in
    let before = c.loop-number.invariant in
    let appended = c.in_ok-add_definites.ensures in
    let wanted = ap (λ n. nat_eq n c.len-before.result) c.len.ensures ∙ ap (λ n. nat_eq (length c.add_definites.new.definites) n) c.len-before.ensures ∙ residual_is k item c.loop-number.definites c.add_definites.new.definites appended in
    record {
      definites = appended ∙ ap (λ ds. ds ++ definites_of_clause (k, item)) before.definites ∙ sym (numbered_step definites_of_clause items k item c.loop-number-test.true c.clause-item.is);
      residuals = c.in_ok-push_if.ensures ∙ ap (λ b. c.loop-number.residuals ++ (if b then k ∷ [] else [])) wanted ∙ ap (λ rs. rs ++ residual_number (k, item)) before.residuals
          ∙ sym (numbered_step residual_number items k item c.loop-number-test.true c.clause-item.is);
    }

pub new-requires : goal.new-requires
new-requires c =
    let cs = clauses_of_spec c.args.spec.now in
    let items = c.as_slice-clause-items.result.now in
    let same = c.as_slice-clause-items.ensures ∙ c.in_ok-clauses.ensures in
    let at_end = c.loop-number-test.false in
    let within = c.loop-number.auto in
    let end : c.loop-number.number ≡ length items = omega (arith, at_end, within.number-end) in
    let definites = definites_end items cs c.loop-number.number c.loop-number.definites same end c.loop-number.invariant.definites in
    let residuals = residuals_end items cs c.loop-number.number c.loop-number.residuals same end c.loop-number.invariant.residuals in
    ap (λ x. is_plan x c.loop-number.definites c.loop-number.residuals) c.in_ok-clauses.ensures ∙ ap (λ x. is_plan cs x c.loop-number.residuals) definites ∙ ap (λ x. is_plan cs (definites_of cs) x) residuals ∙ plan_is c.args.spec.now

pub returns : goal.returns
returns c =
    let cs = clauses_of_spec c.args.spec.now in
    let items = c.as_slice-clause-items.result.now in
    let same = c.as_slice-clause-items.ensures ∙ c.in_ok-clauses.ensures in
    let at_end = c.loop-number-test.false in
    let within = c.loop-number.auto in
    let end : c.loop-number.number ≡ length items = omega (arith, at_end, within.number-end) in
    record {
      clauses = c.new.ensures.clauses ∙ c.in_ok-clauses.ensures;
      definites = c.new.ensures.definites ∙ definites_end items cs c.loop-number.number c.loop-number.definites same end c.loop-number.invariant.definites;
      residuals = c.new.ensures.residuals ∙ residuals_end items cs c.loop-number.number c.loop-number.residuals same end c.loop-number.invariant.residuals;
    }
