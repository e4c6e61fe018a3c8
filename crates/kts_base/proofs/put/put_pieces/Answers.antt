use Rattle.std.proofs.Common.{◌+◌, drop, map}
use Rattle.std.proofs.lemmas.Result.{err_from_is_err_and}
use Rattle.kts_base.specs.Bytes.{joined}
use Rattle.kts_base.proofs.Pieces.{goes_on, stops, pieces_here}
use Rattle.kts_base.proofs.put.put_pieces.Goals as goal

pub returns-in_err-put : goal.returns-in_err-put
returns-in_err-put g c =
    let stopped = stops (joined (map (λ p. p.now) (drop (c.loop-piece.piece-index + 1) c.args.pieces.now))) c.loop-piece.invariant (pieces_here c.args.pieces.now c.loop-piece.piece-index _ c.loop-piece-test.true) c.in_err-put.ensures.wrote in
    let p = err_from_is_err_and c.from_residual.result c.from_residual.ensures.1 in rw p.1 stopped

pub loop-piece-preserved : goal.loop-piece-preserved
loop-piece-preserved g c =
    goes_on (joined (map (λ p. p.now) (drop (c.loop-piece.piece-index + 1) c.args.pieces.now))) c.loop-piece.invariant (pieces_here c.args.pieces.now c.loop-piece.piece-index _ c.loop-piece-test.true) c.in_ok-put.ensures.wrote
