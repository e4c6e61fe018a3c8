use Rattle.std.proofs.Common.{refl}
use Rattle.kts_spec.proofs.AddendEquations.{summed}
use Rattle.kts_spec.proofs.examples.summed_examples.Goals as goal

pub returns : goal.returns
returns c = record { written = simp summed refl; negated = simp summed refl }
