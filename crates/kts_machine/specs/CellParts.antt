-- A part of a cell of a row.
use Rattle.std.specs.Prelude.{◌≡◌, ℕ, true, List, Some, slice_get}
use Rattle.kts_abs.specs.declared.cell.Cell.{Cell}
use Rattle.kts_abs.specs.Cells.{IsValid, is_above}

-- the value is a part of the cell at a place
pub record IsPartAt {W : ℕ} (cells : List (Cell W)) (k : ℕ) (part : Cell W) : Type 0 where
  pub cell : Cell W
  pub got : slice_get cells k ≡ Some cell
  pub cell_valid : IsValid cell
  pub part_valid : IsValid part
  pub above : is_above cell part ≡ true
