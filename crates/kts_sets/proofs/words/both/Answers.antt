use Rattle.std.proofs.Common.{arith}
use Rattle.kts_sets.proofs.Pointwise.{has-and}
use Rattle.kts_sets.proofs.words.both.Goals as goal

pub returns : goal.returns
returns g c = has-and g.row.W c.args.a.now c.args.b.now c.loop-k.out c.told-a c.loop-k.invariant.long (λ k h. c.loop-k.invariant.done k (omega arith))
