use Rattle.serde_json.specs.View.{view}
use Rattle.kts_data.proofs.ObjectLemmas.{data_kept}
use Rattle.kts_data.proofs.data.read_data.Goals as goal

pub returns-clause-valid : goal.returns-clause-valid
returns-clause-valid c = data_kept c.args.schema.now c.args.bytes.now (view c.in_ok-value.value) c.read_value.result c.in_ok-value.ensures c.read_value.ensures
