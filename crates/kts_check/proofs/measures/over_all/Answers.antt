use Rattle.std.proofs.Common.{arith}
use Rattle.std.proofs.lemmas.Int.{ints, clamps}
use Rattle.kts_check.proofs.MeasureLemmas.{pairs}
use Rattle.kts_check.proofs.measures.over_all.Goals as goal

pub returns : goal.returns
returns c = pairs _ _ _ _ (omega (arith, ints, clamps)) (omega (arith, ints, clamps))
