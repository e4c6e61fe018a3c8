-- What clauses see of a row of cells.
use Rattle.std.specs.Prelude.{◌≡◌, refl, ℕ, ◌≤◌, Bool, cond, List, [], ◌∷◌, length, All, Option, Some, None, slice_get, slice_set}
use Rattle.std.specs.Coded.{Coded, code_by, coded×, coded_ℕ, coded_list}
use Rattle.kts_semi.specs.declared.semi.Rise.{Rise}
use Rattle.kts_semi.specs.declared.semi.Rise.TheVariants.{Same, Up, Empty}

-- the cells as opened, the cells now, those of each mark, the latest first, and how many marks fit
pub record RowOf (L : Type 0) : Type 0 where
  pub opened : List L
  pub cells : List L
  pub marks : List (List L)
  pub depth : ℕ

-- each list of the row has as many cells as the row, and the marks fit
pub record IsRow {L : Type 0} (row : RowOf L) : Type 0 where
  pub opened : length row.opened ≡ length row.cells
  pub marks : All (λ mark. length mark ≡ length row.cells) row.marks
  pub room : length row.marks ≤ row.depth

abbrev pub row_code : {L : Type 0} → Coded L → Coded (RowOf L)
row_code {L} c = code_by (List L × (List L × (List (List L) × ℕ))) (coded× (coded_list c) (coded× (coded_list c) (coded× (coded_list (coded_list c)) coded_ℕ)))
    (λ r. (r.opened, (r.cells, (r.marks, r.depth)))) (λ p. record { opened = p.0; cells = p.1.0; marks = p.1.1.0; depth = p.1.1.1 }) (λ _. refl)

-- a row that has been opened
abbrev pub opened_row : {L : Type 0} → List L → ℕ → RowOf L
opened_row cells depth = record { opened = cells; cells = cells; marks = []; depth = depth }

-- the row after a mark
abbrev pub marked : {L : Type 0} → RowOf L → RowOf L
marked row = record row { marks = row.cells ∷ row.marks }

-- the row as it was opened
abbrev pub reset_row : {L : Type 0} → RowOf L → RowOf L
reset_row row = record row { cells = row.opened; marks = [] }

-- the row with the join in a cell, or as it is where there is none
abbrev pub joined_in : {L : Type 0} → ℕ → RowOf L → Option L → Rise × RowOf L
joined_in at row None = (Empty, row)
joined_in at row (Some join) = (Up, record row { cells = slice_set row.cells at join })

abbrev pub risen_from : {L : Type 0} → (L → L → Bool) → (L → L → Option L) → ℕ → L → RowOf L → Option L → Rise × RowOf L
risen_from le joined at bound row None = (Empty, row)
risen_from le joined at bound row (Some cell) = cond (le bound cell) (Same, row) (joined_in at row (joined cell bound))

-- what raising the cell at a place to a bound answers, and the row after it
abbrev pub risen : {L : Type 0} → (L → L → Bool) → (L → L → Option L) → ℕ → L → RowOf L → Rise × RowOf L
risen le joined at bound row = risen_from le joined at bound row (slice_get row.cells at)
