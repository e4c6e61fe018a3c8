use Rattle.std.proofs.Common.{[], map, pos}
use Rattle.kts_machine.proofs.StackSets.{one_more, not_there}
use Rattle.kts_machine.proofs.stack.Stack.one_set.Goals as goal

pub returns-in-Some-clause-some : goal.returns-in-Some-clause-some
returns-in-Some-clause-some g c = one_more c.args.self.now.items c.args.depth c.args.index (map pos c.in-Some.members) [] [] c.in-Some.ensures.some

pub returns-in-None-clause-none : goal.returns-in-None-clause-none
returns-in-None-clause-none g c = not_there c.args.self.now.items c.args.depth c.args.index [] [] c.in-None.ensures.none
