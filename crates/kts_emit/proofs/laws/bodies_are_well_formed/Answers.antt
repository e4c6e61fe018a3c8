use Rattle.kts_emit.proofs.FormedBodies.{bodies_are_well_formed}
use Rattle.kts_emit.proofs.laws.bodies_are_well_formed.Goals as goal

pub returns : goal.returns
returns c = bodies_are_well_formed
