-- Windows within the machine's ends.
use Rattle.std.proofs.Common.{◌≡◌, ℕ, suc, ◌*◌, ◌≤◌, Some, None, true, cond, ap, arith}
use Rattle.std.specs.Prelude.{pos, neg_ℤ, ◌≤ℤ◌, int_le}
use Rattle.std.specs.Int.{int_min, int_max}
use Rattle.std.proofs.lemmas.Int.{ints, clamps}
use Rattle.std.proofs.lemmas.Bool.{and_from}
use Rattle.kts_abs.specs.declared.truth.Tri.{Tri}
use Rattle.kts_abs.specs.declared.truth.Tri.TheVariants.{F, U, T}
use Rattle.kts_abs.specs.Windows.{Window, sum_of, fitted, gated}
use Rattle.kts_base.specs.Limits.{most_number, most_parts}
use Rattle.kts_base.proofs.Orders.{yes_int_le}
use Rattle.kts_semi.specs.Ends.{min_end, max_end, in_limits}

-- the window of a sum of so many terms, each within the limit on numbers
pub record Reached (terms : ℕ) (v : Window) : Type 0 where
  pub low : neg_ℤ (pos (terms * most_number)) ≤ℤ v.0
  pub high : v.1 ≤ℤ pos (terms * most_number)
  pub solid : v.0 ≤ℤ v.1

pub reached_none : Reached 0 (pos 0, pos 0)
reached_none = record { low = omega (arith, ints); high = omega (arith, ints); solid = omega (arith, ints) }

pub reached_sum : (terms : ℕ) (v u : Window) → Reached terms v → Reached 1 u → Reached (suc terms) (sum_of v u)
reached_sum terms v u h i =
    record { low = omega (arith, ints, h.low, i.low); high = omega (arith, ints, h.high, i.high); solid = omega (arith, ints, h.solid, i.solid) }

-- such a sum is within the machine's ends
pub sum_fitted : (terms : ℕ) (v : Window) → Reached terms v → terms ≤ most_parts → fitted v ≡ Some v
sum_fitted terms v h few =
    let low : min_end ≤ℤ v.0 = omega (arith, ints) in
    let high : v.1 ≤ℤ max_end = omega (arith, ints) in
    let a : in_limits v.0 ≡ true =
    and_from (int_le min_end v.0) (int_le v.0 max_end) (yes_int_le min_end v.0 low) (yes_int_le v.0 max_end (omega (arith, ints))) in
    let b : in_limits v.1 ≡ true =
    and_from (int_le min_end v.1) (int_le v.1 max_end) (yes_int_le min_end v.1 (omega (arith, ints))) (yes_int_le v.1 max_end high) in
    ap (λ t. cond t (Some v) None) (and_from (in_limits v.0) (in_limits v.1) a b)

-- an addend that counts where a condition holds
pub reached_gated : (t : Tri) (v : Window) → Reached 1 v → Reached 1 (gated t v)
reached_gated F v h = record { low = omega (arith, ints); high = omega (arith, ints); solid = omega (arith, ints) }
reached_gated U v h =
    let low : neg_ℤ (pos (1 * most_number)) ≤ℤ int_min v.0 (pos 0) = omega (arith, ints, clamps, h.low) in
    let high : int_max v.1 (pos 0) ≤ℤ pos (1 * most_number) = omega (arith, ints, clamps, h.high) in
    let solid : int_min v.0 (pos 0) ≤ℤ int_max v.1 (pos 0) = omega (arith, ints, clamps) in
    record { low = low; high = high; solid = solid }
reached_gated T v h = h
