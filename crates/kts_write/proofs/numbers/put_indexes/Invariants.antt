use Rattle.std.proofs.Common.{drop, map}
use Rattle.std.specs.Prelude.{decimal}
use Rattle.kts_base.specs.Writes.{Part}
use Rattle.kts_write.specs.Spaced.{spaced}
use Rattle.kts_write.proofs.numbers.put_indexes.Given as goal

abbrev pub invariant-loop-index : goal.invariant-loop-index
invariant-loop-index g l =
    Part (g.S.Sink.log l.fn.out) (g.S.Sink.log l.out) (spaced (map decimal (drop l.index-index l.indexes))) (spaced (map decimal l.indexes))
