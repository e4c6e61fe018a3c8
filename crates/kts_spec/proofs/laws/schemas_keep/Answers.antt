use Rattle.kts_spec.proofs.Conditions.{schema_facts}
use Rattle.kts_spec.proofs.laws.schemas_keep.Goals as goal

pub returns : goal.returns
returns c schema = schema_facts schema
