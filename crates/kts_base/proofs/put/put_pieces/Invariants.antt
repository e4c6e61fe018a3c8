use Rattle.std.proofs.Common.{drop, map}
use Rattle.kts_base.specs.Bytes.{joined}
use Rattle.kts_base.specs.Writes.{Part}
use Rattle.kts_base.proofs.put.put_pieces.Given as goal

abbrev pub invariant-loop-piece : goal.invariant-loop-piece
invariant-loop-piece g l =
    Part (g.S.Sink.log l.fn.out) (g.S.Sink.log l.out) (joined (map (λ p. p.now) (drop l.piece-index l.pieces))) (joined (map (λ p. p.now) l.pieces))
