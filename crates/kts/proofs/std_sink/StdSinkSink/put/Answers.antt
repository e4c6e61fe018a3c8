use Rattle.std.proofs.Common.{ap}
use Rattle.std.proofs.lemmas.Result.{err_from_is_err_and}
use Rattle.kts.proofs.Sendings.{both_sent, text_held, cut_first, sent_then, sent_end}
use Rattle.kts.proofs.std_sink.StdSinkSink.put.Goals as goal

pub returns-in_err-make_room-clause-sent : goal.returns-in_err-make_room-clause-sent
returns-in_err-make_room-clause-sent g c =
    let p = err_from_is_err_and c.from_residual.result c.from_residual.ensures.1 in rw p.1 (cut_first _ _ _ c.args.piece.now c.in_err-make_room.ensures.sent)

pub returns-then-piece-gt-HELD_BYTES-clause-sent : goal.returns-then-piece-gt-HELD_BYTES-clause-sent
returns-then-piece-gt-HELD_BYTES-clause-sent g c = sent_then c.pass.result _ _ _ _ _ _ _ _ c.in_ok-make_room.ensures.sent c.pass.ensures.sent

pub returns-clause-sent : goal.returns-clause-sent
returns-clause-sent g c =
    let held = text_held _ _ _ _ c.args.piece.now (ap g.W.Write.contents c.hold.ensures.writer) c.hold.ensures.held in
    sent_end c.end_line.result _ _ _ _ _ _ _ (both_sent _ _ _ _ _ _ _ _ c.in_ok-make_room.ensures.sent held) c.end_line.ensures.sent
