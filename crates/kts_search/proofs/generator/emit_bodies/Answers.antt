use Rattle.std.proofs.Common.{◌≡◌, ◌<◌, length, get_or, ◌∙◌, subst}
use Rattle.kts_search.proofs.PlannedCode.{definite_named, next_body}
use Rattle.kts_search.proofs.generator.emit_bodies.Goals as goal

pub emit_constraint-requires-clause-named : goal.emit_constraint-requires-clause-named
emit_constraint-requires-clause-named c =
    let plan = c.args.plan.now in
    let d = c.definite-item.result in
    let k = c.loop-definite.definite-index in
    let same = c.as_slice-definites.ensures ∙ c.definites.ensures in
    definite_named plan k d (subst (λ ds. k < length ds) same c.loop-definite-test.true) (subst (λ ds. d ≡ get_or ds k d) same c.definite-item.is)

pub loop-definite-preserved : goal.loop-definite-preserved
loop-definite-preserved c =
    next_body c.args.plan.now.clauses c.as_slice-definites.result.now c.loop-definite.definite-index c.definite-item.result _ _ _ c.args.fail
    c.loop-definite-test.true c.definite-item.is c.loop-definite.invariant c.in_ok-emit_constraint.ensures
