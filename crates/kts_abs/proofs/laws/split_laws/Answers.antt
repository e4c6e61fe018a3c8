use Rattle.kts_abs.proofs.Empty.{none_initial}
use Rattle.kts_abs.proofs.Enumerations.{schedules_in_space}
use Rattle.kts_abs.proofs.Sides.{split, one_schedule, initial_is}
use Rattle.kts_abs.proofs.laws.split_laws.Goals as goal

pub returns : goal.returns
returns c = record { split = split; single = one_schedule; schedules = schedules_in_space; initial = initial_is; no_initial = none_initial c.schemas_keep.ensures }
