use Rattle.std.proofs.Common.{◌+◌, drop, map}
use Rattle.kts_code.specs.CodeTexts.{place_word}
use Rattle.std.proofs.lemmas.Result.{err_from_is_err_and}
use Rattle.kts_base.proofs.Pieces.{goes_on, stops}
use Rattle.kts_write.specs.Spaced.{spaced}
use Rattle.kts_write.proofs.LineTexts.{spaced_at}
use Rattle.kts_write.proofs.numbers.put_places.Goals as goal

pub returns-in_err-put_place : goal.returns-in_err-put_place
returns-in_err-put_place g c =
    let p = err_from_is_err_and c.from_residual.result c.from_residual.ensures.1 in
    rw p.1 (stops (spaced (map place_word (drop (c.loop-place.place-index + 1) c.args.places.now))) c.loop-place.invariant
    (spaced_at place_word c.args.places.now c.loop-place.place-index _ c.loop-place-test.true) c.in_err-put_place.ensures)

pub loop-place-preserved : goal.loop-place-preserved
loop-place-preserved g c =
    goes_on (spaced (map place_word (drop (c.loop-place.place-index + 1) c.args.places.now))) c.loop-place.invariant
    (spaced_at place_word c.args.places.now c.loop-place.place-index _ c.loop-place-test.true) c.in_ok-put_place.ensures
