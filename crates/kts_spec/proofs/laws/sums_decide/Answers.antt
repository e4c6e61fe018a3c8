use Rattle.kts_spec.proofs.SumValues.{sums_decide}
use Rattle.kts_spec.proofs.laws.sums_decide.Goals as goal

pub returns : goal.returns
returns c schema scope a b h w schedule vars = sums_decide schema scope a b h w schedule vars
