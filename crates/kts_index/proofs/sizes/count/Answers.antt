use Rattle.std.proofs.Common.{arith}
use Rattle.kts_index.proofs.TupleCounts.{step_fits, count_more}
use Rattle.kts_index.proofs.sizes.count.Goals as goal

pub overflow_mul-count : goal.overflow_mul-count
overflow_mul-count c =
    let h = step_fits c.args.inst.now c.args.indexes.now c.requires c.loop-index.index-index c.loop-index-test.true in
    rw (c.loop-index.invariant, c.size-count.ensures) (omega arith)

pub loop-index-preserved : goal.loop-index-preserved
loop-index-preserved c =
    rw (c.loop-index.invariant, c.size-count.ensures, count_more c.args.inst.now c.args.indexes.now c.loop-index.index-index c.loop-index-test.true)
