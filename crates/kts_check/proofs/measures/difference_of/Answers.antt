use Rattle.std.proofs.Common.{arith}
use Rattle.std.proofs.lemmas.Int.{ints}
use Rattle.kts_check.proofs.MeasureLemmas.{pairs}
use Rattle.kts_check.proofs.measures.difference_of.Goals as goal

pub returns : goal.returns
returns c = pairs _ _ _ _ (omega (arith, ints)) (omega (arith, ints))
