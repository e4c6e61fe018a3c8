-- Ends and windows of whole numbers, as values that rise.
use Rattle.std.specs.Prelude.{ℕ, ◌+◌, Bool, cond, ◌&&◌, Option, Some, None, ℤ, pos, neg_ℤ, ◌-ℤ◌, ◌≤ℤ◌, int_le}
use Rattle.std.specs.Int.{int_min, int_max}
use lib.Signed.{mag}

-- the greatest end of a window
abbrev pub max_end : ℤ
max_end = pos 4000000000000000000

-- the least end of a window
abbrev pub min_end : ℤ
min_end = neg_ℤ max_end

-- the number may be an end
pub record InLimits (n : ℤ) : Type 0 where
  pub low : min_end ≤ℤ n
  pub high : n ≤ℤ max_end

-- the pair is the ends of a window that is not empty
pub record InEnds (w : ℤ × ℤ) : Type 0 where
  pub low : min_end ≤ℤ w.0
  pub ordered : w.0 ≤ℤ w.1
  pub high : w.1 ≤ℤ max_end

-- whether the number may be an end
abbrev pub in_limits : ℤ → Bool
in_limits n = int_le min_end n && int_le n max_end

-- whether both numbers may be ends, in whichever order
abbrev pub in_ends : ℤ × ℤ → Bool
in_ends w = in_limits w.0 && in_limits w.1

-- the second time is not before the first
abbrev pub not_before : ℤ → ℤ → Bool
not_before a b = int_le a b

-- the second time is not after the first
abbrev pub not_after : ℤ → ℤ → Bool
not_after a b = int_le b a

-- the later of two times
abbrev pub later : ℤ → ℤ → Option ℤ
later a b = Some (int_max a b)

-- the earlier of two times
abbrev pub earlier : ℤ → ℤ → Option ℤ
earlier a b = Some (int_min a b)

-- how many ends are not before a time
abbrev pub room_above : ℤ → ℕ
room_above a = mag (max_end -ℤ a) + 1

-- how many ends are not after a time
abbrev pub room_below : ℤ → ℕ
room_below a = mag (a -ℤ min_end) + 1

-- whether the second window lies in the first
abbrev pub inside : ℤ × ℤ → ℤ × ℤ → Bool
inside a b = not_before a.0 b.0 && not_after a.1 b.1

-- the window between two ends, if it is not empty
abbrev pub between : ℤ → ℤ → Option (ℤ × ℤ)
between lo hi = cond (int_le lo hi) (Some (lo, hi)) None

-- what two windows share
abbrev pub overlap : ℤ × ℤ → ℤ × ℤ → Option (ℤ × ℤ)
overlap a b = between (int_max a.0 b.0) (int_min a.1 b.1)

-- the part of a window that is not below a bound
abbrev pub part_from : ℤ × ℤ → ℤ → Option (ℤ × ℤ)
part_from a bound = between (int_max a.0 bound) a.1

-- the part of a window that is not above a bound
abbrev pub part_to : ℤ × ℤ → ℤ → Option (ℤ × ℤ)
part_to a bound = between a.0 (int_min a.1 bound)

-- how many numbers lie in a window
abbrev pub width : ℤ × ℤ → ℕ
width a = mag (a.1 -ℤ a.0) + 1
