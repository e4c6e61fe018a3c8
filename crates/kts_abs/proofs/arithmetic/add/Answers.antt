use Rattle.std.proofs.Common.{arith}
use Rattle.std.proofs.lemmas.Int.{ints}
use Rattle.kts_abs.specs.Windows.{sum_of}
use Rattle.kts_abs.proofs.Fitting.{fitted_from}
use Rattle.kts_abs.proofs.arithmetic.add.Goals as goal

pub returns : goal.returns
returns c =
    fitted_from c.new.result _ (sum_of c.args.a.now c.args.b.now) c.new.ensures.valid c.new.ensures.ends
    (omega (arith, ints)) (omega (arith, ints)) (omega (arith, ints))
