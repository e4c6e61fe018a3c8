use Rattle.kts_spec.proofs.SumsFit.{part_sums_fit}
use Rattle.kts_spec.proofs.laws.part_sums_fit.Goals as goal

pub returns : goal.returns
returns c schema scope parts k e = part_sums_fit schema scope parts k e
