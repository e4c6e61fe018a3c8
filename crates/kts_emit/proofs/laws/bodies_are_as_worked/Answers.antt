use Rattle.kts_emit.proofs.WorkedBodyCode.{bodies_are_as_worked}
use Rattle.kts_emit.proofs.laws.bodies_are_as_worked.Goals as goal

pub returns : goal.returns
returns c = bodies_are_as_worked
