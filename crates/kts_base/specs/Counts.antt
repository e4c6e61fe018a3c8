-- Counts that never fall, kept in 64 bits: they stand still at the last value.
use Rattle.std.specs.Prelude.{ℕ, zero, suc, Option, Some, None, option_and_then, ◌+◌, ◌-◌, ◌^◌, ◌≤◌, min, nat_lt, if◌then◌else◌}

-- a count of one more
abbrev pub next_count : ℕ → ℕ
next_count n = min (n + 1) (2 ^ 64 - 1)

-- the count is greater now, or stands at its last value
abbrev pub Rose : ℕ → ℕ → Type 0
Rose before now = next_count before ≤ now

-- the count, where it can be told: while it is below its last value
abbrev pub told_count : ℕ → Option ℕ
told_count n = if nat_lt n (2 ^ 64 - 1) then Some n else None

-- what is told of a count after one more; nothing where nothing was told before
abbrev pub told_next : Option ℕ → Option ℕ
told_next = option_and_then (λ n. told_count (n + 1))

-- the same after so many more
abbrev pub told_after : ℕ → Option ℕ → Option ℕ
told_after zero told = told
told_after (suc k) told = told_next (told_after k told)
