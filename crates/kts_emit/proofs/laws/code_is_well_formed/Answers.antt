use Rattle.kts_emit.proofs.FormedCode.{code_is_well_formed}
use Rattle.kts_emit.proofs.laws.code_is_well_formed.Goals as goal

pub returns : goal.returns
returns c = code_is_well_formed
