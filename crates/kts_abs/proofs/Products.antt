-- Products of numbers that lie between ends.
use Rattle.std.proofs.Common.{◌≡◌, refl, ◌∙◌, ap, Bool, true, false, cond, int_lt, arith, ℤ, ◌*ℤ◌}
use Rattle.std.proofs.lemmas.Int.{ints, clamps}
use Rattle.std.specs.Int.{int_min, int_max}
use Rattle.kts_abs.specs.Abstraction.{Abstracts}
use Rattle.kts_abs.specs.Windows.{Window, in_window, product_of, least_of_four, greatest_of_four}
use Rattle.kts_abs.specs.WindowLaws.{Lies}
use Rattle.kts_spec.proofs.Products.{Between, between, between'}
use Rattle.kts_abs.proofs.WindowEnds.{Inside, abstracts}

-- the product of numbers in two windows
product_sound : (a b : Window) (x y : ℤ) → Lies a x → Lies b y → Lies (product_of a b) (x *ℤ y)
unfolding product_of least_of_four greatest_of_four
product_sound a b x y p q =
    let m : Between (a.0 *ℤ y) (a.1 *ℤ y) (x *ℤ y) = between a.0 a.1 x y p.low p.high in
    let l : Between (a.0 *ℤ b.0) (a.0 *ℤ b.1) (a.0 *ℤ y) = between' b.0 b.1 y a.0 q.low q.high in
    let r : Between (a.1 *ℤ b.0) (a.1 *ℤ b.1) (a.1 *ℤ y) = between' b.0 b.1 y a.1 q.low q.high in
    record { low = omega (arith, ints, clamps); high = omega (arith, ints, clamps) }

chosen_same : (b : Bool) (z : ℤ) → cond b z z ≡ z
chosen_same true z = refl
chosen_same false z = refl

-- the least and the greatest of four that are one number
least_same : (z : ℤ) → least_of_four z z z z ≡ z
unfolding least_of_four
least_same z = let e : int_min z z ≡ z = chosen_same (int_lt z z) z in rw (e, e) refl

greatest_same : (z : ℤ) → greatest_of_four z z z z ≡ z
unfolding greatest_of_four
greatest_same z = let e : int_max z z ≡ z = chosen_same (int_lt z z) z in rw (e, e) refl

-- the product of single numbers
product_exact : (x y : ℤ) → product_of (x, x) (y, y) ≡ (x *ℤ y, x *ℤ y)
unfolding product_of
product_exact x y = ap (λ l. (l, greatest_of_four (x *ℤ y) (x *ℤ y) (x *ℤ y) (x *ℤ y))) (least_same (x *ℤ y)) ∙ ap (λ g. (x *ℤ y, g)) (greatest_same (x *ℤ y))

-- the product of the wider windows allows each product of two ends
product_monotone : (a c b d : Window) → Inside a c → Inside b d → Inside (product_of a b) (product_of c d)
unfolding product_of least_of_four greatest_of_four
product_monotone a c b d i j =
    let ll : Lies (product_of c d) (a.0 *ℤ b.0) = product_sound c d a.0 b.0 (record { low = i.low; high = omega (arith, ints) }) (record { low = j.low; high = omega (arith, ints) }) in
    let lh : Lies (product_of c d) (a.0 *ℤ b.1) = product_sound c d a.0 b.1 (record { low = i.low; high = omega (arith, ints) }) (record { low = omega (arith, ints); high = j.high }) in
    let hl : Lies (product_of c d) (a.1 *ℤ b.0) = product_sound c d a.1 b.0 (record { low = omega (arith, ints); high = i.high }) (record { low = j.low; high = omega (arith, ints) }) in
    let hh : Lies (product_of c d) (a.1 *ℤ b.1) = product_sound c d a.1 b.1 (record { low = omega (arith, ints); high = i.high }) (record { low = omega (arith, ints); high = j.high }) in
    record { solid = omega (arith, ints, clamps); low = omega (arith, ints, clamps); high = omega (arith, ints, clamps) }

pub products : Abstracts in_window in_window in_window ◌*ℤ◌ product_of
products = abstracts ◌*ℤ◌ product_of (record { sound = product_sound; monotone = product_monotone; exact = product_exact })
