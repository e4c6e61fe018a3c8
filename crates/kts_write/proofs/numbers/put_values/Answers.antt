use Rattle.std.proofs.Common.{◌+◌, drop, map}
use Rattle.std.specs.Fmt.{signed_decimal}
use Rattle.std.proofs.lemmas.Result.{err_from_is_err_and}
use Rattle.kts_base.proofs.Pieces.{goes_on, stops}
use Rattle.kts_write.specs.Spaced.{spaced}
use Rattle.kts_write.proofs.LineTexts.{spaced_at}
use Rattle.kts_write.proofs.numbers.put_values.Goals as goal

pub returns-in_err-put_value : goal.returns-in_err-put_value
returns-in_err-put_value g c =
    let p = err_from_is_err_and c.from_residual.result c.from_residual.ensures.1 in
    rw p.1 (stops (spaced (map signed_decimal (drop (c.loop-value.value-index + 1) c.args.values.now))) c.loop-value.invariant
    (spaced_at signed_decimal c.args.values.now c.loop-value.value-index _ c.loop-value-test.true) c.in_err-put_value.ensures)

pub loop-value-preserved : goal.loop-value-preserved
loop-value-preserved g c =
    goes_on (spaced (map signed_decimal (drop (c.loop-value.value-index + 1) c.args.values.now))) c.loop-value.invariant
    (spaced_at signed_decimal c.args.values.now c.loop-value.value-index _ c.loop-value-test.true) c.in_ok-put_value.ensures
