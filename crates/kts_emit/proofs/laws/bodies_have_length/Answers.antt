use Rattle.kts_emit.proofs.LongBodies.{bodies_have_length}
use Rattle.kts_emit.proofs.laws.bodies_have_length.Goals as goal

pub returns : goal.returns
returns c = bodies_have_length
