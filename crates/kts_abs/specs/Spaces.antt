-- Spaces: what is known of each cell of a schedule, and how a search splits them.
use Rattle.std.specs.Prelude.{◌≡◌, ◌≢◌, Bool, true, false, ◌&&◌, if◌then◌else◌, ℕ, suc, ◌+◌, ◌<◌, ℤ, pos, ◌+ℤ◌, int_lt, List, [], ◌∷◌, ◌++◌, map, filter, slice_set, slice_index_or, Option, Some, None, option_map}
use Rattle.std.specs.List.{list_all}
use Rattle.kts_spec.specs.declared.declarations.ValueType.{ValueType}
use Rattle.kts_spec.specs.declared.declarations.ValueType.TheVariants.{Int, Member}
use Rattle.kts_spec.specs.declared.tree.Formula.{Formula}
use Rattle.kts_spec.specs.Answers.{kept_of}
use Rattle.kts_spec.specs.Related.{Pairs}
use Rattle.kts_spec.specs.Schedules.{Cell, cells, values_of, schedules}
use Rattle.kts_spec.specs.Worlds.{World}
use Rattle.kts_abs.specs.Values.{Abs, Win, Mem, allows, Refines, is_cell, room_of}

-- whether a schedule has in each cell a value that the space allows there
abbrev pub holds : List Abs → List ℤ → Bool
holds [] [] = true
holds [] (n ∷ ns) = false
holds (a ∷ s) [] = false
holds (a ∷ s) (n ∷ ns) = allows a n && holds s ns

-- t knows as much as s or more
abbrev pub IsAbove : List Abs → List Abs → Type 0
IsAbove s t = Pairs Refines t s

-- all values of a type
abbrev pub type_value : World → ValueType → Abs
type_value w (Int lo hi) = Win (lo, hi)
type_value w (Member i) = Mem (values_of w (Member i))

-- the types of the cells; a type may be empty
abbrev pub types : World → List Abs
types w = map (λ (c : Cell). type_value w c.kind) (cells w)

-- the space of all schedules; none where a cell's type is empty
abbrev pub initial : World → Option (List Abs)
initial w = if list_all is_cell (types w) then Some (types w) else None

-- a space for the cells of a specification on data
pub record IsSpace (w : World) (t : List Abs) : Type 0 where
  pub above : IsAbove (types w) t
  pub cells : list_all is_cell t ≡ true

-- the schedules that hold in a space, in lexicographic order
abbrev pub schedules_in : World → List Abs → List (List ℤ)
schedules_in w t = filter (holds t) (schedules w)

-- the schedules among them on which these formulas are true
abbrev pub kept_in : World → List Formula → List Abs → List (List ℤ)
kept_in w formulas t = filter (holds t) (kept_of w formulas)

-- whether a cell has two values or more
abbrev pub is_wide : Abs → Bool
is_wide (Win w) = int_lt w.0 w.1
is_wide (Mem []) = false
is_wide (Mem (m ∷ [])) = false
is_wide (Mem (m ∷ n ∷ ms)) = true

-- the least value of a cell
abbrev pub least_in : Abs → ℤ
least_in (Win w) = w.0
least_in (Mem []) = pos 0
least_in (Mem (m ∷ ms)) = m

-- the cell with its least value alone
abbrev pub least_alone : Abs → Abs
least_alone (Win w) = Win (w.0, w.0)
least_alone (Mem []) = Mem []
least_alone (Mem (m ∷ ms)) = Mem (m ∷ [])

-- the cell without its least value
abbrev pub least_dropped : Abs → Abs
least_dropped (Win w) = Win (w.0 +ℤ pos 1, w.1)
least_dropped (Mem []) = Mem []
least_dropped (Mem (m ∷ ms)) = Mem ms

-- the first cell with two values or more; a space with none is single
abbrev pub split_cell : List Abs → Option ℕ
split_cell [] = None
split_cell (a ∷ s) = if is_wide a then Some 0 else option_map suc (split_cell s)

-- the space with its split cell changed
abbrev pub with_split : (Abs → Abs) → List Abs → List Abs
with_split f [] = []
with_split f (a ∷ s) = if is_wide a then f a ∷ s else a ∷ with_split f s

-- the side that keeps the least value of the split cell
abbrev pub left : List Abs → List Abs
left = with_split least_alone

-- the side that drops it
abbrev pub right : List Abs → List Abs
right = with_split least_dropped

-- how many values a space allows beyond one for each cell
abbrev pub room_in : List Abs → ℕ
room_in [] = 0
room_in (a ∷ s) = room_of a + room_in s

-- one side of a split: above the space, changed in cell k alone, with less room and some schedule
pub record IsSide (w : World) (t : List Abs) (k : ℕ) (change : Abs → Abs) (side : List Abs) : Type 0 where
  pub space : IsSpace w side
  pub above : IsAbove t side
  pub one_cell : side ≡ slice_set t k (change (slice_index_or t k (Mem [])))
  pub room : room_in side < room_in t
  pub some : schedules_in w side ≢ []

-- where a space is not single, its schedules are those of its left side followed by those of its right side
pub record IsSplit (w : World) (t : List Abs) (k : ℕ) : Type 0 where
  pub left_side : IsSide w t k least_alone (left t)
  pub right_side : IsSide w t k least_dropped (right t)
  pub schedules : schedules_in w t ≡ schedules_in w (left t) ++ schedules_in w (right t)
  pub kept : (formulas : List Formula) → kept_in w formulas t ≡ kept_in w formulas (left t) ++ kept_in w formulas (right t)

-- where there is a space of all schedules, it is one, and it holds them all
pub record IsInitial (w : World) (s : List Abs) : Type 0 where
  pub space : IsSpace w s
  pub types : s ≡ types w
  pub schedules : schedules_in w s ≡ schedules w
