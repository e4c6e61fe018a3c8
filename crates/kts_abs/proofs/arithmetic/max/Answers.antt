use Rattle.std.proofs.Common.{arith}
use Rattle.std.proofs.lemmas.Int.{ints, clamps}
use Rattle.kts_abs.proofs.Fitting.{made_from}
use Rattle.kts_abs.proofs.arithmetic.max.Goals as goal

pub returns : goal.returns
returns c =
    made_from c.new.result _ _ c.new.ensures.valid c.new.ensures.ends
    (omega (arith, ints, clamps)) (omega (arith, ints, clamps))
    (record { low = omega (arith, ints, clamps); ordered = omega (arith, ints, clamps); high = omega (arith, ints, clamps) })
