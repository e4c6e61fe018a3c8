use Rattle.std.proofs.Common.{ap}
use Rattle.kts_machine.specs.OperandViews.{shown}
use Rattle.kts_machine.proofs.StackSets.{same_sets}
use Rattle.kts_machine.proofs.tops.same_member.Goals as goal

pub returns-in-Some : goal.returns-in-Some
returns-in-Some g c = same_sets (shown c.args.below.now) (shown c.args.top.now) c.in-Set.index c.in-Set.members c.in-Some.others c.same.result (ap shown c.in-Set.is) c.in-Some.ensures.some c.same.ensures
