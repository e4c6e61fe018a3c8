-- The worked search, computed.
use Rattle.std.proofs.Common.{[], refl}
use Rattle.kts_index.specs.Pairs.{pairs}
use Rattle.kts_code.specs.Worked.{HasPrinted, GoesOn, HasHalted, at_most_one, first_schedule, all_schedules}

pub before : HasPrinted at_most_one 30 []
unfolding pairs
before = refl

pub first : HasPrinted at_most_one 31 first_schedule
unfolding pairs
first = refl

pub whole : HasPrinted at_most_one 75 all_schedules
unfolding pairs
whole = refl

pub halted : HasHalted at_most_one 97
unfolding pairs
halted = refl

pub going : GoesOn at_most_one 96
unfolding pairs
going = refl
