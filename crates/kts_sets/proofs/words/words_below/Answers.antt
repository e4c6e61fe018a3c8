use Rattle.std.proofs.Common.{arith}
use Rattle.kts_sets.proofs.Pointwise.{has-below}
use Rattle.kts_sets.proofs.words.words_below.Goals as goal

pub returns : goal.returns
returns g c = has-below g.row.W c.args.n c.loop-k.out c.loop-k.invariant.long c.requires.fits (λ k h. c.loop-k.invariant.done k (omega arith))
