use Rattle.std.proofs.Common.{◌+◌, drop, map}
use Rattle.std.specs.Prelude.{decimal}
use Rattle.std.proofs.lemmas.Result.{err_from_is_err_and}
use Rattle.kts_base.proofs.Pieces.{goes_on, stops}
use Rattle.kts_write.specs.Spaced.{spaced}
use Rattle.kts_write.proofs.LineTexts.{spaced_at}
use Rattle.kts_write.proofs.numbers.put_indexes.Goals as goal

pub returns-in_err-put_index : goal.returns-in_err-put_index
returns-in_err-put_index g c =
    let p = err_from_is_err_and c.from_residual.result c.from_residual.ensures.1 in
    rw p.1 (stops (spaced (map decimal (drop (c.loop-index.index-index + 1) c.args.indexes.now))) c.loop-index.invariant
    (spaced_at decimal c.args.indexes.now c.loop-index.index-index _ c.loop-index-test.true) c.in_err-put_index.ensures)

pub loop-index-preserved : goal.loop-index-preserved
loop-index-preserved g c =
    goes_on (spaced (map decimal (drop (c.loop-index.index-index + 1) c.args.indexes.now))) c.loop-index.invariant
    (spaced_at decimal c.args.indexes.now c.loop-index.index-index _ c.loop-index-test.true) c.in_ok-put_index.ensures
