use Rattle.std.proofs.Common.{[], ◌∷◌}
use Rattle.kts_machine.proofs.StackSets.{not_there}
use Rattle.kts_machine.proofs.stack.Stack.two_sets.Goals as goal

pub returns-in-None-clause-none : goal.returns-in-None-clause-none
returns-in-None-clause-none g c = not_there c.args.self.now.items c.args.depth c.args.last (c.args.first ∷ []) [] c.in-None.ensures.none
