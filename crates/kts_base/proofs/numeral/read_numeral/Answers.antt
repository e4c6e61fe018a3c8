use Rattle.std.proofs.Common.{refl, arith}
use Rattle.kts_base.proofs.NumeralLemmas.{numeral_digits}
use Rattle.kts_base.proofs.numeral.read_numeral.Goals as goal

pub loop-digit-init : goal.loop-digit-init
loop-digit-init c = record { small = omega arith; digits = numeral_digits _ c.if-not-is_numeral.ensures; value = refl }
