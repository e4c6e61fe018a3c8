use Rattle.std.proofs.Common.{◌≡◌, length, take}
use Rattle.kts_emit.proofs.appends.cut.Given as goal

abbrev pub invariant-loop-list : goal.invariant-loop-list
invariant-loop-list l = take l.count l.list ≡ take l.count l.initial.list

abbrev pub decreases-loop-list : goal.decreases-loop-list
decreases-loop-list l = length l.list
