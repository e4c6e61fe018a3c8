use Rattle.std.proofs.Common.{arith}
use Rattle.kts_sets.proofs.Pointwise.{has-or}
use Rattle.kts_sets.proofs.words.either.Goals as goal

pub returns : goal.returns
returns g c = has-or g.row.W c.args.a.now c.args.b.now c.loop-k.out c.told-a c.told-b c.loop-k.invariant.long (λ k h. c.loop-k.invariant.done k (omega arith))
