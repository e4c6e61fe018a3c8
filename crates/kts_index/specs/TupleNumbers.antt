-- Tuples of members by their numbers.
use Rattle.std.specs.Prelude.{ℕ, ◌/◌, ◌%◌, ◌<◌, ◌≤◌, List, [], ◌∷◌, length, map, slice_index, All}
use Rattle.kts_base.specs.Limits.{most_prefix, most_members}
use Rattle.kts_spec.specs.declared.instance.Instance.{Instance}
use Rattle.kts_spec.specs.Places.{count_of}

-- the numbers of members of these indexes
abbrev pub sizes_in : Instance → List ℕ → List ℕ
sizes_in inst indexes = map (slice_index (map length inst.members)) indexes

-- indexes that are there, no more of them than in a prefix, where none has too many members
pub record AreIndexes (inst : Instance) (indexes : List ℕ) : Type 0 where
  pub few : length indexes ≤ most_prefix
  pub inside : All (λ i. i < length inst.members) indexes
  pub small : (i : ℕ) → slice_index (map length inst.members) i ≤ most_members

-- the tuple of this number, in lexicographic order
abbrev pub tuple_at : List ℕ → ℕ → List ℕ
tuple_at [] p = []
tuple_at (n ∷ sizes) p = p / count_of sizes % n ∷ tuple_at sizes p
