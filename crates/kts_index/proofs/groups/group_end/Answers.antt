use Rattle.std.proofs.Common.{arith}
use Rattle.kts_index.proofs.PatternGroups.{all_after}
use Rattle.kts_index.proofs.groups.group_end.Goals as goal

pub returns-then-patterns-k-clause-group : goal.returns-then-patterns-k-clause-group
returns-then-patterns-k-clause-group c = record {
  ordered = c.loop-k.invariant.on;
  within = omega arith;
  before = c.requires.before;
  after = let t = c.if-patterns-k.true in let r = c.if-not-in_order.false in all_after c.args.patterns.now (c.requires.in_order r) c.args.definite c.loop-k.k c.index-patterns-k.result c.loop-k-test.true t;
}
