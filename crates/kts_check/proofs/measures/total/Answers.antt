use Rattle.std.proofs.Common.{arith}
use Rattle.std.proofs.lemmas.Int.{ints}
use Rattle.kts_check.specs.Measures.{total}
use Rattle.kts_check.proofs.MeasureLemmas.{total_none, total_on, total_end}
use Rattle.kts_check.proofs.measures.total.Goals as goal

pub returns-in-Member : goal.returns-in-Member
unfolding total
returns-in-Member c = total_none _ c.args.kinds.now c.loop-kind.kind-index _ _ _ c.loop-kind-test.true c.in-Member.is c.loop-kind.invariant.so_far

pub loop-kind-preserved : goal.loop-kind-preserved
loop-kind-preserved c = record {
  low_above = omega (arith, ints);
  low_below = omega (arith, ints);
  high_above = omega (arith, ints);
  high_below = omega (arith, ints);
  so_far = total_on _ c.args.kinds.now c.loop-kind.kind-index c.in-Whole.a c.in-Whole.b _ _ _ _ c.loop-kind-test.true c.in-Whole.is (omega (arith, ints)) (omega (arith, ints)) c.loop-kind.invariant.so_far;
}

pub returns : goal.returns
unfolding total
returns c = total_end _ c.args.kinds.now c.loop-kind.kind-index _ c.loop-kind-test.false c.loop-kind.invariant.so_far
