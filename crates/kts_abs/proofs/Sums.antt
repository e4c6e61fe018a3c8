-- Sums, differences, the lesser and the greater of numbers in windows.
use Rattle.std.proofs.Common.{refl, ◌+ℤ◌, ◌-ℤ◌, arith}
use Rattle.std.proofs.lemmas.Int.{ints, clamps}
use Rattle.std.specs.Int.{int_min, int_max}
use Rattle.kts_abs.specs.Abstraction.{Abstracts}
use Rattle.kts_abs.specs.Windows.{in_window, sum_of, difference_of, least_of, greatest_of}
use Rattle.kts_abs.proofs.WindowEnds.{abstracts}

-- sums of numbers in windows
pub sums : Abstracts in_window in_window in_window ◌+ℤ◌ sum_of
sums = abstracts ◌+ℤ◌ sum_of (record {
  sound = λ a b x y p q. record { low = omega (arith, ints); high = omega (arith, ints) };
  monotone = λ a c b d i j. record { solid = omega (arith, ints); low = omega (arith, ints); high = omega (arith, ints) };
  exact = λ x y. refl;
})

-- differences
pub differences : Abstracts in_window in_window in_window ◌-ℤ◌ difference_of
differences = abstracts ◌-ℤ◌ difference_of (record {
  sound = λ a b x y p q. record { low = omega (arith, ints); high = omega (arith, ints) };
  monotone = λ a c b d i j. record { solid = omega (arith, ints); low = omega (arith, ints); high = omega (arith, ints) };
  exact = λ x y. refl;
})

-- the lesser of two
pub lesser : Abstracts in_window in_window in_window int_min least_of
lesser = abstracts int_min least_of (record {
  sound = λ a b x y p q. record { low = omega (arith, ints, clamps); high = omega (arith, ints, clamps) };
  monotone = λ a c b d i j. record { solid = omega (arith, ints, clamps); low = omega (arith, ints, clamps); high = omega (arith, ints, clamps) };
  exact = λ x y. refl;
})

-- the greater of two
pub greater : Abstracts in_window in_window in_window int_max greatest_of
greater = abstracts int_max greatest_of (record {
  sound = λ a b x y p q. record { low = omega (arith, ints, clamps); high = omega (arith, ints, clamps) };
  monotone = λ a c b d i j. record { solid = omega (arith, ints, clamps); low = omega (arith, ints, clamps); high = omega (arith, ints, clamps) };
  exact = λ x y. refl;
})
