-- The trail of a row: what its places had before they were written.
use Rattle.std.specs.Prelude.{◌≡◌, ℕ, ◌+◌, ◌*◌, ◌<◌, ◌≤◌, Bool, true, cond, nat_lt, nat_eq, List, [], ◌∷◌, ◌++◌, length, map, take, drop, reverse, All, Some, slice_get, slice_set}
use Rattle.std.specs.List.{list_any}
use Rattle.kts_rows.specs.declared.trail.Slot.{Slot}
use Rattle.kts_rows.specs.declared.trail.Entry.{Entry}

abbrev pub value_of : {L : Type 0} → Slot L → L
value_of slot = slot.value

-- the cells that the slots hold
abbrev pub cells_of : {L : Type 0} → List (Slot L) → List L
cells_of slots = map value_of slots

-- the slot of a cell that was written when there was no mark
abbrev pub bottom_slot : {L : Type 0} → L → Slot L
bottom_slot cell = record { value = cell; level = 0 }

-- a slot for each cell, written when there was no mark
abbrev pub bottoms : {L : Type 0} → List L → List (Slot L)
bottoms cells = map bottom_slot cells

-- the slots before the entries were made, the latest entry undone first
unfoldable pub undone : {L : Type 0} → List (Entry L) → List (Slot L) → List (Slot L)
undone [] slots = slots
undone (entry ∷ entries) slots = slice_set (undone entries slots) entry.at entry.before

-- the cells when the trail was so long
abbrev pub cells_at : {L : Type 0} → List (Entry L) → List (Slot L) → ℕ → List L
cells_at trail slots start = cells_of (undone (drop start trail) slots)

-- the trail with a slot that was written at a lower level than this one
abbrev pub entered : {L : Type 0} → ℕ → ℕ → Slot L → List (Entry L) → List (Entry L)
entered level at before trail = cond (nat_lt before.level level) (trail ++ record { at = at; before = before } ∷ []) trail

-- the entry is of one of the first n places
abbrev pub IsIn : {L : Type 0} → ℕ → Entry L → Type 0
IsIn n entry = entry.at < n

-- whether a place has an entry
abbrev pub has_entry : {L : Type 0} → ℕ → List (Entry L) → Bool
has_entry at entries = list_any (λ entry. nat_eq at entry.at) entries

-- the sum of the levels
unfoldable pub height : {L : Type 0} → List (Slot L) → ℕ
height [] = 0
height (slot ∷ slots) = slot.level + height slots

-- the slots and the trail after a mark, made when the trail was so long: a place that was written since has an entry since,
-- and no more entries were made than levels were climbed
pub record IsLevel {L : Type 0} (level from : ℕ) (trail : List (Entry L)) (slots : List (Slot L)) : Type 0 where
  pub within : from ≤ length trail
  pub places : All (IsIn (length slots)) (drop from trail)
  pub levels : All (λ slot. slot.level ≤ level) slots
  pub entries : (at : ℕ) (slot : Slot L) → slice_get slots at ≡ Some slot → slot.level ≡ level → has_entry at (drop from trail) ≡ true
  pub climbed : length trail ≤ height slots

-- the slots and the trail at each mark and now, the latest first
unfoldable pub Levels : {L : Type 0} → List (Entry L) → List (Slot L) → List ℕ → Type 0
Levels trail slots [] = (length trail ≡ 0) × All (λ slot. slot.level ≡ 0) slots
Levels trail slots (start ∷ starts) = IsLevel (length (start ∷ starts)) start trail slots × Levels (take start trail) (undone (drop start trail) slots) starts

-- the parts of a row: as many slots as were opened, room for the marks, and room for an entry of each place at each mark
pub record AreParts {L : Type 0} (opened : List L) (slots : List (Slot L)) (trail : List (Entry L)) (starts : List ℕ)
    (depth marks_room entries_room : ℕ) : Type 0 where
  pub width : length opened ≡ length slots
  pub marks : length starts ≤ depth
  pub marks_fit : depth ≤ marks_room
  pub entries_fit : length slots * depth ≤ entries_room
  pub levels : Levels trail slots (reverse starts)
