-- The ends between which the value of a term lies, by interval arithmetic.
use Rattle.std.specs.Prelude.{ℤ, pos, ◌+ℤ◌, ◌-ℤ◌, ◌*ℤ◌, int_le, neg_ℤ, List, fold, Bool, ◌&&◌, Option, Some, None, if◌then◌else◌}
use Rattle.std.specs.Int.{int_min, int_max}
use Rattle.kts_base.specs.Limits.{most_members, most_number}

-- the least and the greatest value
abbrev pub Range : Type 0
Range = ℤ × ℤ

-- a number alone
abbrev pub one_number : ℤ → Range
one_number n = (n, n)

-- a sum, and a difference
abbrev pub sum_range : Range → Range → Range
sum_range v w = (v.0 +ℤ w.0, v.1 +ℤ w.1)

abbrev pub difference_range : Range → Range → Range
difference_range v w = (v.0 -ℤ w.1, v.1 -ℤ w.0)

abbrev pub least_of_four : ℤ → ℤ → ℤ → ℤ → ℤ
least_of_four a b c d = int_min (int_min a b) (int_min c d)

abbrev pub greatest_of_four : ℤ → ℤ → ℤ → ℤ → ℤ
greatest_of_four a b c d = int_max (int_max a b) (int_max c d)

-- a product: its ends are among the products of the ends
abbrev pub product_range : Range → Range → Range
product_range v w = (
  least_of_four (v.0 *ℤ w.0) (v.0 *ℤ w.1) (v.1 *ℤ w.0) (v.1 *ℤ w.1),
  greatest_of_four (v.0 *ℤ w.0) (v.0 *ℤ w.1) (v.1 *ℤ w.0) (v.1 *ℤ w.1),
)

-- the lesser, and the greater, of two
abbrev pub least_range : Range → Range → Range
least_range v w = (int_min v.0 w.0, int_min v.1 w.1)

abbrev pub greatest_range : Range → Range → Range
greatest_range v w = (int_max v.0 w.0, int_max v.1 w.1)

-- the sum of several terms
abbrev pub total_range : List Range → Range
total_range = fold sum_range (pos 0, pos 0)

-- a sum over as many members as an index may have, each of which may be left out
abbrev pub sum_over_range : Range → Range
sum_over_range w = (pos most_members *ℤ int_min w.0 (pos 0), pos most_members *ℤ int_max w.1 (pos 0))

-- whether both ends lie within the limit on numbers
abbrev pub is_bounded : Range → Bool
is_bounded w = int_le (neg_ℤ (pos most_number)) w.0 && int_le w.1 (pos most_number)

-- the range, where it is within the limit
abbrev pub within_limit : Range → Option Range
within_limit w = if is_bounded w then Some w else None
