use Rattle.kts_spec.proofs.ValueKinds.{values_keep_kinds}
use Rattle.kts_spec.proofs.laws.values_keep_kinds.Goals as goal

pub returns : goal.returns
returns c schema inst valid schedule stands scope vars inside t k typed = values_keep_kinds schema inst valid schedule stands scope vars inside t k typed
