-- Members that a set of any width can hold.
use Rattle.std.specs.Prelude.{◌<◌, ℕ, List, Option, Some, None, slice_index_or}
use Rattle.kts_base.specs.Limits.{most_members}

-- the member of a register, where it is set, is one that an index may have
abbrev pub IsSmall : Option (ℕ × ℕ) → Type 0
IsSmall None = Unit {0}
IsSmall (Some (i, m)) = m < most_members

-- registers whose members are such
abbrev pub AreSmall : List (Option (ℕ × ℕ)) → Type 0
AreSmall registers = (r : ℕ) → IsSmall (slice_index_or registers r None)
