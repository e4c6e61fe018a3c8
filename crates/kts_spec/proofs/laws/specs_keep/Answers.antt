use Rattle.kts_spec.proofs.Conditions.{spec_facts}
use Rattle.kts_spec.proofs.laws.specs_keep.Goals as goal

pub returns : goal.returns
returns c spec = spec_facts spec
