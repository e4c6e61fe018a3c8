use Rattle.std.proofs.Common.{◌≡◌, take}
use Rattle.kts_data.proofs.roster.Roster.from_names.Given as goal

abbrev pub invariant-loop-name : goal.invariant-loop-name
invariant-loop-name l = l.roster ≡ take l.name-index l.names
