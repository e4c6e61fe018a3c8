-- The cells with which a row is opened.
use Rattle.std.specs.Prelude.{◌≡◌, ℕ, Bool, true, List, length, map, flat_map, replicate}
use Rattle.std.specs.List.{list_all}
use Rattle.kts_abs.specs.declared.cell.Cell.{Cell}
use Rattle.kts_abs.specs.Cells.{value_of}
use Rattle.kts_abs.specs.Spaces.{type_value}
use Rattle.kts_abs.specs.Values.{Abs, is_cell}
use Rattle.kts_spec.specs.declared.declarations.Family.{Family}
use Rattle.kts_spec.specs.Places.{count_of}
use Rattle.kts_spec.specs.Worlds.{World, sizes_of}

-- as many cells as types; where each type has a value, the cells are the types
pub record IsOpening {W : ℕ} (kinds : List Abs) (cells : List (Cell W)) (is_whole : Bool) : Type 0 where
  pub long : length cells ≡ length kinds
  pub whole : is_whole ≡ list_all is_cell kinds
  pub same : is_whole ≡ true → map value_of cells ≡ kinds

-- the type of each cell of these choices
abbrev pub types_of : World → List Family → List Abs
types_of w families = flat_map (λ (family : Family). replicate (count_of (sizes_of w family)) (type_value w family.kind)) families
