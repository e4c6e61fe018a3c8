-- That the abstract values of well typed terms lie in their static ranges.
use Rattle.std.specs.Prelude.{◌≡◌, ◌≤ℤ◌, ℕ, ℤ, List, true, Some}
use Rattle.kts_abs.specs.InSpace.{value_in}
use Rattle.kts_abs.specs.Spaces.{IsAbove, initial}
use Rattle.kts_abs.specs.Values.{Abs, Win, Mem, has}
use Rattle.kts_abs.specs.Windows.{Window}
use Rattle.kts_spec.specs.declared.instance.Instance.{Instance}
use Rattle.kts_spec.specs.declared.schema.Schema.{Schema}
use Rattle.kts_spec.specs.declared.tree.Term.{Term}
use Rattle.kts_spec.specs.Data.{is_valid}
use Rattle.kts_spec.specs.Places.{is_in}
use Rattle.kts_spec.specs.Ranges.{Range}
use Rattle.kts_spec.specs.TypedValues.{InScope}
use Rattle.kts_spec.specs.Typing.{MemberOf, kind_of, range}
use Rattle.kts_spec.specs.Worlds.{World, world_of, size_of}

-- a window that is not empty, between the ends of a range
pub record IsWindowIn (r : Range) (a : Abs) : Type 0 where
  pub window : Window
  pub is : a ≡ Win window
  pub low : r.0 ≤ℤ window.0
  pub rising : window.0 ≤ℤ window.1
  pub high : window.1 ≤ℤ r.1

-- a set with a member, all of whose members are of an index of this size
pub record IsSetIn (size : ℕ) (a : Abs) : Type 0 where
  pub members : List ℤ
  pub is : a ≡ Mem members
  pub first : ℤ
  pub solid : has members first ≡ true
  pub inside : (m : ℤ) → has members m ≡ true → is_in size m ≡ true

-- in a space the value of a whole-number term is a window in its range, and that of a member term a set of some members
-- of its index
pub record ValuesAreRanged (schema : Schema) (w : World) (space : List Abs) : Type 0 where
  pub whole : (scope vars : List ℕ) → InScope w scope vars → (t : Term) (r : Range) → range schema t scope ≡ Some r
      → IsWindowIn r (value_in w space t vars)
  pub member : (scope vars : List ℕ) → InScope w scope vars → (t : Term) (index : ℕ) → kind_of schema t scope ≡ Some (MemberOf index)
      → IsSetIn (size_of w index) (value_in w space t vars)

-- on valid data so it is in every space above the first
abbrev pub ValuesHaveRanges : Type 0
ValuesHaveRanges =
    (schema : Schema) (inst : Instance) → is_valid schema inst ≡ true
    → (first space : List Abs) → initial (world_of schema inst) ≡ Some first → IsAbove first space
    → ValuesAreRanged schema (world_of schema inst) space
