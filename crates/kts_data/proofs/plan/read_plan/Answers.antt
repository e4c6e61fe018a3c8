use Rattle.serde_json.specs.View.{view}
use Rattle.kts_data.proofs.ObjectLemmas.{plan_kept}
use Rattle.kts_data.proofs.plan.read_plan.Goals as goal

pub returns-clause-schedule : goal.returns-clause-schedule
returns-clause-schedule c = plan_kept c.args.schema.now c.args.inst.now c.args.bytes.now (view c.in_ok-value.value) c.read_value.result c.requires
    c.in_ok-value.ensures c.read_value.ensures
