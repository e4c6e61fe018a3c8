use Rattle.kts_spec.proofs.SumsFit.{partial_sums_fit}
use Rattle.kts_spec.proofs.laws.partial_sums_fit.Goals as goal

pub returns : goal.returns
returns c spec = partial_sums_fit spec
