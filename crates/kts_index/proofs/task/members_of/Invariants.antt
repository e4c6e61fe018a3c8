use Rattle.std.proofs.Common.{◌≡◌, length}
use Rattle.kts_index.proofs.TupleMembers.{Holds}
use Rattle.kts_index.proofs.task.members_of.Given as goal

abbrev pub invariant-loop-k : goal.invariant-loop-k
invariant-loop-k l = record { long : length l.members ≡ 3; same : Holds l.inst l.prefix l.number l.members l.k }
