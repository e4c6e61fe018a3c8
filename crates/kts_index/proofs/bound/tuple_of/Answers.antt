use Rattle.std.proofs.Common.{arith}
use Rattle.kts_index.proofs.TupleMembers.{holds_all}
use Rattle.kts_index.proofs.bound.tuple_of.Goals as goal

pub returns : goal.returns
returns c =
    holds_all c.args.inst.now c.args.indexes.now c.args.number c.loop-k.tuple (let l = c.loop-k.invariant.long in let s = c.requires.few in omega arith)
    (λ j h. c.loop-k.invariant.same j (let t = c.loop-k-test.false in omega arith))
