use Rattle.std.proofs.Common.{◌≡◌, length, drop}
use Rattle.kts_check.specs.Measures.{are_members}
use Rattle.kts_check.proofs.measures.are_members.Given as goal

abbrev pub invariant-loop-k : goal.invariant-loop-k
invariant-loop-k l = record {
  as_many : length l.kinds ≡ length l.indexes;
  so_far : are_members (drop l.k l.indexes) (drop l.k l.kinds) ≡ are_members l.indexes l.kinds;
}
