use Rattle.std.proofs.Common.{◌≡◌, take}
use Rattle.kts_data.proofs.draft.names_of.Given as goal

abbrev pub invariant-loop-roster : goal.invariant-loop-roster
invariant-loop-roster l = l.names ≡ take l.roster-index l.rosters
