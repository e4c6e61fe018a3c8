use Rattle.std.proofs.Common.{◌≡◌, length}
use Rattle.kts_index.proofs.TupleMembers.{Holds}
use Rattle.kts_index.proofs.bound.tuple_of.Given as goal

abbrev pub invariant-loop-k : goal.invariant-loop-k
invariant-loop-k l = record { long : length l.tuple ≡ 2; same : Holds l.inst l.indexes l.number l.tuple l.k }
