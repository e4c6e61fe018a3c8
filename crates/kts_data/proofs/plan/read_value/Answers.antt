use Rattle.std.proofs.Common.{◌∙◌, inr}
use Rattle.serde_json.specs.View.{view, members_view}
use Rattle.kts_data.proofs.ObjectLemmas.{plan_key}
use Rattle.kts_data.proofs.plan.read_value.Goals as goal

pub returns-in-Some-unknown_key : goal.returns-in-Some-unknown_key
returns-in-Some-unknown_key c =
    let unknown = rw (c.as_slice.ensures ∙ c.choices.ensures) at c.in-Some-unknown_key.ensures in
    rw c.fail_whole-in-Some-unknown_key.ensures
    (inr (plan_key c.args.schema.now c.args.inst.now (view c.args.value.now) (members_view c.in-Some.object.now.entries) c.in_ok-plan.plan
    c.in-Some-unknown_key.k c.in-Some.ensures c.in_ok-plan.ensures unknown))
