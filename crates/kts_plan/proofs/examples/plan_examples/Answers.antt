use Rattle.kts_plan.proofs.WorkedHeads.{examples}
use Rattle.kts_plan.proofs.examples.plan_examples.Goals as goal

pub returns : goal.returns
returns c = examples
