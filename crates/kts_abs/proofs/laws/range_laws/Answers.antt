use Rattle.kts_abs.proofs.Fitting.{fitted_some, fitted_same}
use Rattle.kts_abs.proofs.laws.range_laws.Goals as goal

pub returns : goal.returns
returns c = record { in_range = fitted_some; same = fitted_same }
