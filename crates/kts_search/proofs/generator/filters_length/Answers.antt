use Rattle.std.proofs.Common.{◌<◌, length, get_or, sym, ◌∙◌, subst}
use Rattle.kts_search.proofs.PlannedCode.{residual_named}
use Rattle.kts_search.proofs.generator.filters_length.Goals as goal

pub clause_of-requires : goal.clause_of-requires
clause_of-requires c =
    let plan = c.args.plan.now in
    let k = c.loop-number.number-index in
    let same = c.as_slice-numbers.ensures ∙ c.residuals.ensures in
    subst (λ rs. get_or rs k 0 < length plan.clauses) (sym same) (residual_named plan k (subst (λ rs. k < length rs) same c.loop-number-test.true))
