-- Abstract values and numbers that are of a type.
use Rattle.std.specs.Prelude.{◌≤ℤ◌, ◌<ℤ◌, ℤ, pos, neg_ℤ, List}
use Rattle.kts_abs.specs.Values.{Abs, Win, Mem}
use Rattle.kts_base.specs.Limits.{most_members, most_window_end}
use Rattle.kts_spec.specs.declared.declarations.ValueType.{ValueType}
use Rattle.kts_spec.specs.declared.declarations.ValueType.TheVariants.{Int, Member}
use Rattle.kts_spec.specs.Related.{Pairs}
use Rattle.kts_spec.specs.Schedules.{Cell, cells}
use Rattle.kts_spec.specs.Worlds.{World}

-- a window of whole numbers, a set of members
abbrev pub IsOf : ValueType → Abs → Type 0
IsOf (Int lo hi) (Win w) = Unit {0}
IsOf (Int lo hi) (Mem ms) = ⊥
IsOf (Member i) (Win w) = ⊥
IsOf (Member i) (Mem ms) = Unit {0}

-- an end that a window may have, a position that a member may have
abbrev pub IsNumberOf : ValueType → ℤ → Type 0
IsNumberOf (Int lo hi) n = (neg_ℤ (pos most_window_end) ≤ℤ n) × (n ≤ℤ pos most_window_end)
IsNumberOf (Member i) n = (pos 0 ≤ℤ n) × (n <ℤ pos most_members)

-- each cell has a value of its type
abbrev pub HasKinds : World → List Abs → Type 0
HasKinds w space = Pairs (λ (c : Cell) a. IsOf c.kind a) (cells w) space
