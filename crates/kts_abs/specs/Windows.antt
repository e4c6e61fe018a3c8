-- Arithmetic on windows of whole numbers, as pairs of their ends.
use Rattle.std.specs.Prelude.{Bool, ◌&&◌, ◌||◌, if◌then◌else◌, Option, Some, None, ℤ, pos, ◌+ℤ◌, ◌-ℤ◌, ◌*ℤ◌, int_lt, int_le}
use Rattle.std.specs.Int.{int_min, int_max}
use Rattle.std.specs.Ordering.{int_eq}
use Rattle.kts_semi.specs.Ends.{in_ends}
use Rattle.kts_abs.specs.declared.truth.Tri.{Tri}
use Rattle.kts_abs.specs.declared.truth.Tri.TheVariants.{F, U, T}
use Rattle.kts_abs.specs.Truth.{decided}

-- the least and the greatest number
abbrev pub Window : Type 0
Window = ℤ × ℤ

-- whether the number lies in the window
abbrev pub in_window : Window → ℤ → Bool
in_window w n = int_le w.0 n && int_le n w.1

-- the number where it is the only one
abbrev pub single_of : Window → Option ℤ
single_of w = if int_eq w.0 w.1 then Some w.0 else None

-- the window where its ends are in the machine's range
abbrev pub fitted : Window → Option Window
fitted w = if in_ends w then Some w else None

-- what the sum of two numbers may be
abbrev pub sum_of : Window → Window → Window
sum_of a b = (a.0 +ℤ b.0, a.1 +ℤ b.1)

-- what their difference may be, least where the second is greatest
abbrev pub difference_of : Window → Window → Window
difference_of a b = (a.0 -ℤ b.1, a.1 -ℤ b.0)

-- the least of four numbers
unfoldable pub least_of_four : ℤ → ℤ → ℤ → ℤ → ℤ
least_of_four p q r s = int_min (int_min p q) (int_min r s)

-- the greatest of four numbers
unfoldable pub greatest_of_four : ℤ → ℤ → ℤ → ℤ → ℤ
greatest_of_four p q r s = int_max (int_max p q) (int_max r s)

-- from the least to the greatest product of an end of each
unfoldable pub product_of : Window → Window → Window
product_of a b = (
  least_of_four (a.0 *ℤ b.0) (a.0 *ℤ b.1) (a.1 *ℤ b.0) (a.1 *ℤ b.1),
  greatest_of_four (a.0 *ℤ b.0) (a.0 *ℤ b.1) (a.1 *ℤ b.0) (a.1 *ℤ b.1),
)

-- what the lesser of two numbers may be
abbrev pub least_of : Window → Window → Window
least_of a b = (int_min a.0 b.0, int_min a.1 b.1)

-- what the greater of two numbers may be
abbrev pub greatest_of : Window → Window → Window
greatest_of a b = (int_max a.0 b.0, int_max a.1 b.1)

-- the least window round both
abbrev pub hull_of : Window → Window → Window
hull_of a b = (int_min a.0 b.0, int_max a.1 b.1)

-- an addend that counts where the condition is true
abbrev pub kept_where : Bool → ℤ → ℤ
kept_where b n = if b then n else pos 0

-- the same of a window under a condition that may be unknown
abbrev pub gated : Tri → Window → Window
gated F w = (pos 0, pos 0)
gated U w = hull_of w (pos 0, pos 0)
gated T w = w

-- whether each number of the first is at most each of the second
abbrev pub le_of : Window → Window → Tri
le_of a b = decided (int_le a.1 b.0) (int_lt b.1 a.0)

-- whether both are one and the same number
abbrev pub are_one : Window → Window → Bool
are_one a b = int_eq a.0 a.1 && int_eq b.0 b.1 && int_eq a.0 b.0

-- whether they have no number in common
abbrev pub are_apart : Window → Window → Bool
are_apart a b = int_lt a.1 b.0 || int_lt b.1 a.0

-- whether both are the same number
abbrev pub eq_of : Window → Window → Tri
eq_of a b = decided (are_one a b) (are_apart a b)
