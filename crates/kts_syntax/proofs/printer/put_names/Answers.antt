use Rattle.std.proofs.Common.{◌+◌, drop, map, append-nil}
use Rattle.std.proofs.lemmas.Result.{err_from_is_err_and}
use Rattle.kts_base.proofs.Pieces.{goes_on, stops, ends}
use Rattle.kts_syntax.specs.Texts.{spaced, name_text}
use Rattle.kts_syntax.proofs.TextLemmas.{spaced_here, spaced_end}
use Rattle.kts_syntax.proofs.printer.put_names.Goals as goal

pub returns-in_err-put_pieces : goal.returns-in_err-put_pieces
returns-in_err-put_pieces g c =
    let p = err_from_is_err_and c.from_residual.result c.from_residual.ensures.1 in
    rw p.1 (stops (spaced (map name_text (drop (c.loop-word.word-index + 1) c.args.words.now))) c.loop-word.invariant
    (spaced_here name_text c.args.words.now c.loop-word.word-index c.word-item.result c.loop-word-test.true c.word-item.is)
    (rw (append-nil, c.bytes.ensures.bytes, c.name.ensures) at c.in_err-put_pieces.ensures))

pub loop-word-preserved : goal.loop-word-preserved
loop-word-preserved g c =
    goes_on (spaced (map name_text (drop (c.loop-word.word-index + 1) c.args.words.now))) c.loop-word.invariant
    (spaced_here name_text c.args.words.now c.loop-word.word-index c.word-item.result c.loop-word-test.true c.word-item.is)
    (rw (append-nil, c.bytes.ensures.bytes, c.name.ensures) at c.in_ok-put_pieces.ensures)

pub returns : goal.returns
returns g c = ends c.loop-word.invariant (spaced_end _ _ _ c.loop-word-test.false)
