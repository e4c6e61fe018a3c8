use Rattle.std.proofs.Common.{arith}
use Rattle.kts_check.proofs.MeasureLemmas.{members_fail, members_on, members_end}
use Rattle.kts_check.proofs.measures.are_members.Goals as goal

pub returns-then-not-is_member : goal.returns-then-not-is_member
returns-then-not-is_member c =
    members_fail c.args.indexes.now c.args.kinds.now c.loop-k.k _ _ _ _ c.loop-k-test.true (omega arith) c.is_member.ensures c.if-not-is_member.true c.loop-k.invariant.so_far

pub loop-k-preserved : goal.loop-k-preserved
loop-k-preserved c = record {
  as_many = c.loop-k.invariant.as_many;
  so_far = members_on c.args.indexes.now c.args.kinds.now c.loop-k.k _ _ _ _ c.loop-k-test.true (omega arith) c.is_member.ensures c.if-not-is_member.false c.loop-k.invariant.so_far;
}

pub returns : goal.returns
returns c = members_end c.args.indexes.now c.args.kinds.now c.loop-k.k _ c.loop-k-test.false (omega arith) c.loop-k.invariant.so_far
