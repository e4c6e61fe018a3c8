-- The values of well typed terms.
use Rattle.std.specs.Prelude.{◌≡◌, ◌<◌, ◌≤ℤ◌, ◌<ℤ◌, ℕ, ℤ, pos, List, true, Some}
use Rattle.std.specs.List.{Contains}
use Rattle.kts_spec.specs.declared.instance.Instance.{Instance}
use Rattle.kts_spec.specs.declared.schema.Schema.{Schema}
use Rattle.kts_spec.specs.declared.tree.Term.{Term}
use Rattle.kts_spec.specs.Data.{is_valid}
use Rattle.kts_spec.specs.Meaning.{value_on}
use Rattle.kts_spec.specs.Related.{Pairs}
use Rattle.kts_spec.specs.Schedules.{schedules}
use Rattle.kts_spec.specs.Typing.{Kind, Whole, MemberOf, kind_of}
use Rattle.kts_spec.specs.Worlds.{World, world_of, size_of}

-- a number between the ends, or the position of a member of the index
abbrev pub IsOfKind : World → Kind → ℤ → Type 0
IsOfKind w (Whole r) v = (r.0 ≤ℤ v) × (v ≤ℤ r.1)
IsOfKind w (MemberOf i) v = (pos 0 ≤ℤ v) × (v <ℤ pos (size_of w i))

-- variables that are members of the indexes of a scope
abbrev pub InScope : World → List ℕ → List ℕ → Type 0
InScope w = Pairs (λ i m. m < size_of w i)

-- on valid data and any of its schedules, the value of a term is of the kind of the term
abbrev pub ValuesKeepKinds : Type 0
ValuesKeepKinds =
    (schema : Schema) (inst : Instance) → is_valid schema inst ≡ true
    → (schedule : List ℤ) → Contains (schedules (world_of schema inst)) schedule
    → (scope vars : List ℕ) → InScope (world_of schema inst) scope vars
    → (t : Term) (k : Kind) → kind_of schema t scope ≡ Some k
    → IsOfKind (world_of schema inst) k (value_on (world_of schema inst) schedule t vars)
