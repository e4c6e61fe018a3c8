-- An instance as far as it is read, and how many tuples of members it has.
use Rattle.std.specs.Prelude.{◌≡◌, ◌<◌, ℕ, List, length, map, nat_le, true, slice_index}
use Rattle.std.specs.List.{list_all}
use Rattle.kts_base.specs.Limits.{most_members}
use Rattle.kts_spec.specs.declared.declarations.Decl.{Decl}
use Rattle.kts_spec.specs.declared.declarations.Decl.TheVariants.{Index, Given, Choose, Manifest}
use Rattle.kts_spec.specs.declared.instance.Instance.{Instance}
use Rattle.kts_spec.specs.declared.schema.Schema.{Schema}
use Rattle.kts_spec.specs.Places.{count_of}
use Rattle.kts_data.specs.declared.draft.Draft.{Draft}

-- the instance that a draft is
abbrev pub instance_in : Draft → Instance
instance_in draft = record { members = draft.members; values = draft.values }

-- a declaration is of an index or a given that is there
abbrev pub IsThere : Schema → Decl → Type 0
IsThere schema (Index i) = i < length schema.indexes
IsThere schema (Given f) = f < length schema.givens
IsThere schema (Choose x) = Unit {0}
IsThere schema (Manifest x) = Unit {0}

-- no index has too many members
abbrev pub AreFew : List (List (List ℕ)) → Type 0
AreFew members = list_all (λ names. nat_le (length names) most_members) members ≡ true

-- the number of tuples of members of these indexes
abbrev pub tuples_in : Instance → List ℕ → ℕ
tuples_in inst indexes = count_of (map (slice_index (map length inst.members)) indexes)
