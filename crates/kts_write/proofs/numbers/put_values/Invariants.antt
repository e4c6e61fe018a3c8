use Rattle.std.proofs.Common.{drop, map}
use Rattle.std.specs.Fmt.{signed_decimal}
use Rattle.kts_base.specs.Writes.{Part}
use Rattle.kts_write.specs.Spaced.{spaced}
use Rattle.kts_write.proofs.numbers.put_values.Given as goal

abbrev pub invariant-loop-value : goal.invariant-loop-value
invariant-loop-value g l =
    Part (g.S.Sink.log l.fn.out) (g.S.Sink.log l.out)
    (spaced (map signed_decimal (drop l.value-index l.values))) (spaced (map signed_decimal l.values))
