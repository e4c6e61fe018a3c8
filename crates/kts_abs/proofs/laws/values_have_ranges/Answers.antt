use Rattle.kts_abs.proofs.RangedValues.{values_have_ranges}
use Rattle.kts_abs.proofs.laws.values_have_ranges.Goals as goal

pub returns : goal.returns
returns c = values_have_ranges
