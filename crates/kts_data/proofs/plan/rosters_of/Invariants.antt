use Rattle.std.proofs.Common.{◌≡◌, take}
use Rattle.kts_data.proofs.plan.rosters_of.Given as goal

abbrev pub invariant-loop-names : goal.invariant-loop-names
invariant-loop-names l = l.rosters ≡ take l.names-index l.members
