use Rattle.std.proofs.Common.{arith, ◌≡◌, Some}
use Rattle.std.proofs.lemmas.Int.{ints, clamps}
use Rattle.kts_abs.proofs.Fitting.{made_from}
use Rattle.kts_abs.specs.Windows.{hull_of}
use Rattle.kts_abs.proofs.arithmetic.hull.Goals as goal

pub unwrap-requires : goal.unwrap-requires
unwrap-requires c = c.new.ensures.valid.1 (record { low = omega (arith, ints, clamps); ordered = omega (arith, ints, clamps); high = omega (arith, ints, clamps) })

pub returns : goal.returns
returns c =
    let m : c.new.result ≡ Some (hull_of c.args.a.now c.args.b.now) =
    made_from c.new.result _ (hull_of c.args.a.now c.args.b.now) c.new.ensures.valid c.new.ensures.ends (omega (arith, ints, clamps)) (omega (arith, ints, clamps))
    (record { low = omega (arith, ints, clamps); ordered = omega (arith, ints, clamps); high = omega (arith, ints, clamps) }) in
    cc
