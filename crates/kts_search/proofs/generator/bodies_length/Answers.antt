use Rattle.std.proofs.Common.{◌≡◌, ◌<◌, length, get_or, ◌∙◌, subst}
use Rattle.kts_search.proofs.PlannedCode.{definite_named}
use Rattle.kts_search.proofs.generator.bodies_length.Goals as goal

pub body_length-requires : goal.body_length-requires
body_length-requires c =
    let plan = c.args.plan.now in
    let d = c.definite-item.result in
    let k = c.loop-definite.definite-index in
    let same = c.as_slice-definites.ensures ∙ c.definites.ensures in
    definite_named plan k d (subst (λ ds. k < length ds) same c.loop-definite-test.true) (subst (λ ds. d ≡ get_or ds k d) same c.definite-item.is)
