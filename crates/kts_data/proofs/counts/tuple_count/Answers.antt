use Rattle.std.proofs.Common.{arith, ◌<◌}
use Rattle.kts_data.proofs.CountLemmas.{product_fits}
use Rattle.kts_data.proofs.counts.tuple_count.Goals as goal

pub overflow_mul-count : goal.overflow_mul-count
overflow_mul-count c =
    let here : c.loop-index.index-index < 3 = omega arith in
    let p = product_fits c.loop-index.count c.member_count-count.result c.loop-index.index-index c.loop-index.invariant.few here c.member_count-count.ensures.few in
    omega (arith, p)
