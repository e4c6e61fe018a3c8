use Rattle.std.proofs.Common.{◌≡◌, ◌∙◌, subst, ◌<◌, length, get_or}
use Rattle.kts_classify.proofs.PlanFacts.{is_named}
use Rattle.kts_classify.proofs.schema_of_tasks.prefixes.Goals as goal

pub prefix-requires : goal.prefix-requires
prefix-requires c =
    let d = c.definite-item.result in
    let k = c.loop-definite.definite-index in
    let same = c.as_slice-definite-items.ensures ∙ c.definites.ensures in
    (is_named c.args.plan.now k d (subst (λ ds. k < length ds) same c.loop-definite-test.true) (subst (λ ds. d ≡ get_or ds k d) same c.definite-item.is)).clause
