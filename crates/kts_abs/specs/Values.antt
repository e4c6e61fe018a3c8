-- Abstract values of terms: windows of whole numbers, and sets of members by their positions.
use Rattle.std.specs.Prelude.{◌≡◌, Bool, true, false, ◌&&◌, ◌||◌, ℕ, ◌-◌, ℤ, pos, ◌-ℤ◌, int_lt, int_le, nat_abs, List, [], ◌∷◌, length, fold}
use Rattle.std.specs.Int.{int_min, int_max}
use Rattle.std.specs.Ordering.{int_eq}
use Rattle.kts_spec.specs.Schedules.{numbers}
use Rattle.kts_abs.specs.Abstraction.{Finer}
use Rattle.kts_abs.specs.Windows.{Window, in_window}

-- a set is written as a list of its members
pub data Abs : Type 0 where
  Win : Window → Abs
  Mem : List ℤ → Abs

-- whether the number is in the list
abbrev pub has : List ℤ → ℤ → Bool
has [] n = false
has (m ∷ ms) n = int_eq n m || has ms n

-- whether the number is one of those that are stood for
abbrev pub allows : Abs → ℤ → Bool
allows (Win w) n = in_window w n
allows (Mem ms) n = has ms n

-- the first is of the second's kind, allows something, and nothing that the second does not allow
abbrev pub Refines : Abs → Abs → Type 0
Refines (Win v) (Win w) = Finer in_window v w
Refines (Win v) (Mem ns) = ⊥
Refines (Mem ms) (Win w) = ⊥
Refines (Mem ms) (Mem ns) = Finer has ms ns

-- it stands for the number alone
abbrev pub IsOne : ℤ → Abs → Type 0
IsOne n (Win w) = w ≡ (n, n)
IsOne n (Mem ms) = ms ≡ n ∷ []

-- whether each number is greater than the one before it, the first greater than n
abbrev pub rises_from : ℤ → List ℤ → Bool
rises_from n [] = true
rises_from n (m ∷ ms) = int_lt n m && rises_from m ms

-- whether it is a value of a cell: not empty, the members in rising order
abbrev pub is_cell : Abs → Bool
is_cell (Win w) = int_le w.0 w.1
is_cell (Mem []) = false
is_cell (Mem (m ∷ ms)) = rises_from m ms

-- the window round the members of a set; of none, 0
abbrev pub ends_of : List ℤ → Window
ends_of [] = (pos 0, pos 0)
ends_of (m ∷ ms) = (fold int_min m ms, fold int_max m ms)

-- as a window
abbrev pub window_of : Abs → Window
window_of (Win w) = w
window_of (Mem ms) = ends_of ms

-- as a list of all that it allows
abbrev pub members_of : Abs → List ℤ
members_of (Win w) = numbers w.0 w.1
members_of (Mem ms) = ms

-- how many values it allows beyond the first
abbrev pub room_of : Abs → ℕ
room_of (Win w) = nat_abs (w.1 -ℤ w.0)
room_of (Mem ms) = length ms - 1
