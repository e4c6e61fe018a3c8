-- Cells as values that rise: a window and a set have no join.
use Rattle.std.specs.Prelude.{Bool, false, ℕ, List, length, pos, map, Option, None, option_map}
use Rattle.kts_semi.specs.Ends.{InEnds, inside, overlap, width}
use Rattle.kts_sets.specs.Choices.{IsChoice, within, common}
use Rattle.kts_abs.specs.declared.cell.Cell.{Cell}
use Rattle.kts_abs.specs.declared.cell.Cell.TheVariants.{Win, Mem}
use Rattle.kts_abs.specs.declared.space.Space.{Space}
use Rattle.kts_abs.specs.Values.{Abs, Win as of_window, Mem as of_members}

-- the value of a cell of the machine
abbrev pub IsValid : {W : ℕ} → Cell W → Type 0
IsValid (Win w) = InEnds w
IsValid (Mem ms) = IsChoice ms

-- whether the second cell is the first or above it
abbrev pub is_above : {W : ℕ} → Cell W → Cell W → Bool
is_above (Win v) (Win w) = inside v w
is_above (Win v) (Mem ns) = false
is_above (Mem ms) (Win w) = false
is_above (Mem ms) (Mem ns) = within ms ns

-- the least cell above both
abbrev pub joined : {W : ℕ} → Cell W → Cell W → Option (Cell W)
joined (Win v) (Win w) = option_map (λ u. Win u) (overlap v w)
joined (Win v) (Mem ns) = None
joined (Mem ms) (Win w) = None
joined (Mem ms) (Mem ns) = option_map (λ us. Mem us) (common ms ns)

-- the number of values that a cell allows
abbrev pub extent : {W : ℕ} → Cell W → ℕ
extent (Win w) = width w
extent (Mem ms) = length ms

-- the cell as an abstract value, whatever the width of its set
abbrev pub value_of : {W : ℕ} → Cell W → Abs
value_of (Win w) = of_window w
value_of (Mem ms) = of_members (map pos ms)

-- the space of abstract values
abbrev pub space_of : {W : ℕ} → Space W → List Abs
space_of s = map value_of s.cells
