-- The order of cells: where a tuple stands among all tuples, a cell among all cells, and the value of either.
use Rattle.std.specs.Prelude.{◌≡◌, ◌<◌, ◌↔◌, ◌⊎◌, ℕ, ◌+◌, ℤ, pos, nat_abs, List, [], ◌∷◌, length, map, true, Some, slice_get}
use Rattle.kts_spec.specs.declared.schema.Schema.{Schema}
use Rattle.kts_spec.specs.declared.instance.Instance.{Instance}
use Rattle.kts_spec.specs.Data.{is_valid}
use Rattle.kts_spec.specs.Places.{is_in, count_of, place, cell_count, offset, cell, entry, lookup}
use Rattle.kts_spec.specs.Related.{Pairs}
use Rattle.kts_spec.specs.Schedules.{Cell, tuples, cells}
use Rattle.kts_spec.specs.Texts.{entries}
use Rattle.kts_spec.specs.Worlds.{World, world_of, sizes_of, given_of, choice_of, table_of}

-- numbers that are members of indexes of these sizes
abbrev pub AreMembers : List ℕ → List ℤ → Type 0
AreMembers = Pairs (λ n m. is_in n m ≡ true)

-- where two tuples first differ, the first has the lesser member
abbrev pub IsBefore : List ℕ → List ℕ → Type 0
IsBefore [] other = ⊥
IsBefore (a ∷ more) [] = ⊥
IsBefore (a ∷ more) (b ∷ rest) = (a < b) ⊎ ((a ≡ b) × IsBefore more rest)

-- tuples stand in lexicographic order, the place of a tuple is its number among them, and members alone have a place
pub record TuplesHavePlaces (sizes : List ℕ) : Type 0 where
  pub count : length (tuples sizes) ≡ count_of sizes
  pub at : (k : ℕ) (tuple : List ℕ) → (slice_get (tuples sizes) k ≡ Some tuple) ↔ (place sizes (map pos tuple) ≡ Some k)
  pub rises : (j k : ℕ) (a b : List ℕ) → slice_get (tuples sizes) j ≡ Some a → slice_get (tuples sizes) k ≡ Some b → j < k → IsBefore a b
  pub members : (args : List ℤ) → AreMembers sizes args ↔ ((k : ℕ) × (place sizes args ≡ Some k))
  pub positions : (args : List ℤ) (k : ℕ) → place sizes args ≡ Some k → args ≡ map pos (map nat_abs args)

-- a cell of a choice that is declared, of its type, whose number is k
pub record IsCell (w : World) (k : ℕ) (c : Cell) : Type 0 where
  pub declared : c.choice < length w.choices
  pub kind : c.kind ≡ (choice_of w c.choice).kind
  pub number : cell w c.choice (map pos c.args) ≡ Some k

-- the k-th cell is the one whose number is k; an access at members, and no other, names a cell of its choice
pub record CellsHaveNumbers (w : World) : Type 0 where
  pub count : length (cells w) ≡ cell_count w w.choices
  pub at : (k : ℕ) (c : Cell) → (slice_get (cells w) k ≡ Some c) ↔ IsCell w k c
  pub members : (x : ℕ) (args : List ℤ) → AreMembers (sizes_of w (choice_of w x)) args ↔ ((k : ℕ) × (cell w x args ≡ Some k))
  pub access : (x k : ℕ) (args : List ℤ) → x < length w.choices → cell w x args ≡ Some k
      → slice_get (cells w) k ≡ Some (record { choice = x; args = map nat_abs args; kind = (choice_of w x).kind })

-- the text of a choice on a schedule has each tuple in order, with the value of its cell
pub record EntriesHaveValues (w : World) (schedule : List ℤ) (x : ℕ) : Type 0 where
  pub at : (j : ℕ) (tuple : List ℕ) (v : ℤ) → (slice_get (entries w schedule x) j ≡ Some (tuple, v))
      ↔ ((cell w x (map pos tuple) ≡ Some (offset w x + j)) × (slice_get schedule (offset w x + j) ≡ Some v))
  pub read : (j : ℕ) (tuple : List ℕ) (v : ℤ) → slice_get (entries w schedule x) j ≡ Some (tuple, v) → lookup schedule (cell w x (map pos tuple)) (pos 0) ≡ v
  pub all : x < length w.choices → length schedule ≡ cell_count w w.choices → length (entries w schedule x) ≡ count_of (sizes_of w (choice_of w x))

-- the k-th value of a given is its value at the k-th tuple
pub record TableHasValues (w : World) (f : ℕ) : Type 0 where
  pub count : length (table_of w f) ≡ length (tuples (sizes_of w (given_of w f)))
  pub at : (k : ℕ) (tuple : List ℕ) → (slice_get (tuples (sizes_of w (given_of w f))) k ≡ Some tuple) ↔ (entry w f (map pos tuple) ≡ Some k)
  pub read : (k : ℕ) (args : List ℤ) → entry w f args ≡ Some k → slice_get (table_of w f) k ≡ Some (lookup (table_of w f) (entry w f args) (pos 0))

-- on valid data, the tables of all givens
abbrev pub TablesHaveValues : Type 0
TablesHaveValues =
    (schema : Schema) (inst : Instance) → is_valid schema inst ≡ true
    → (f : ℕ) → f < length schema.givens → TableHasValues (world_of schema inst) f
