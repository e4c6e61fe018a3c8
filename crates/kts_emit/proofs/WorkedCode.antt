-- The worked codes compute, once each form is its code.
use Rattle.std.proofs.Common.{refl}
use Rattle.kts_emit.specs.Worked.{CodeIsAsWorked}
use Rattle.kts_emit.proofs.CodeEquations.{code_forms}

pub code_is_as_worked : CodeIsAsWorked
code_is_as_worked = record { first = simp code_forms refl; second = simp code_forms refl }
