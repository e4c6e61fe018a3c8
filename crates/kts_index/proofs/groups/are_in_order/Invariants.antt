use Rattle.kts_index.proofs.PatternGroups.{AreInOrderBelow}
use Rattle.kts_index.proofs.groups.are_in_order.Given as goal

abbrev pub invariant-loop-k : goal.invariant-loop-k
invariant-loop-k l = AreInOrderBelow l.patterns l.k
