use Rattle.std.proofs.Common.{◌+◌, sym, ◌∙◌, arith}
use Rattle.kts_read.proofs.Splits.{after_place, prepend_none, split_on, split_ends, split_last}
use Rattle.kts_read.proofs.lines.split_once.Goals as goal

pub loop-i-init : goal.loop-i-init
loop-i-init c = sym (prepend_none c.args.at c.args.bytes.now)

pub loop-i-preserved : goal.loop-i-preserved
loop-i-preserved c = c.loop-i.invariant ∙ split_on c.args.at c.args.bytes.now c.loop-i.i c.loop-i-test.true c.if-bytes-i.false

pub returns-then-bytes-i-clause-pieces : goal.returns-then-bytes-i-clause-pieces
returns-then-bytes-i-clause-pieces c = rw (after_place c.args.bytes.now (c.loop-i.i + 1)) (c.loop-i.invariant ∙ split_ends c.args.at c.args.bytes.now c.loop-i.i c.loop-i-test.true c.if-bytes-i.true)

pub returns-clause-pieces : goal.returns-clause-pieces
returns-clause-pieces c = c.loop-i.invariant ∙ split_last c.args.at c.args.bytes.now c.loop-i.i (omega arith)
