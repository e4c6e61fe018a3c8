-- How often the cells of a row can rise.
use Rattle.std.specs.Prelude.{ℕ, ◌+◌, ◌-◌, ◌≤◌, Bool, List, [], ◌∷◌, Option, All}
use Rattle.kts_semi.specs.declared.semi.Rise.{Rise}
use Rattle.kts_semi.specs.declared.semi.Rise.TheVariants.{Same, Up, Empty}
use Rattle.kts_rows.specs.Rows.{RowOf, marked, risen}

-- the sum of the sizes of the cells, each less one
unfoldable pub spare : {L : Type 0} → (L → ℕ) → List L → ℕ
spare extent [] = 0
spare extent (cell ∷ cells) = (extent cell - 1) + spare extent cells

-- 1 where a cell has risen
abbrev pub ups : Rise → ℕ
ups Same = 0
ups Up = 1
ups Empty = 0

-- a call of `rise` or of `mark`
pub data Call (L : Type 0) : Type 0 where
  rise_call : ℕ → L → Call L
  mark_call : Call L

-- the bounds that the calls raise to
unfoldable pub bounds : {L : Type 0} → List (Call L) → List L
bounds [] = []
bounds (rise_call at bound ∷ calls) = bound ∷ bounds calls
bounds (mark_call ∷ calls) = bounds calls

-- how many of the calls, made one after another, are answered `Up`
unfoldable pub ups_in : {L : Type 0} → (L → L → Bool) → (L → L → Option L) → List (Call L) → RowOf L → ℕ
ups_in le joined [] row = 0
ups_in le joined (rise_call at bound ∷ calls) row = ups (risen le joined at bound row).0 + ups_in le joined calls (risen le joined at bound row).1
ups_in le joined (mark_call ∷ calls) row = ups_in le joined calls (marked row)

-- of any calls of `rise` and `mark`, at most as many are answered `Up` as the cells before them have to spare
abbrev pub RisesAreFew : {L : Type 0} → (L → Type 0) → (L → L → Bool) → (L → L → Option L) → (L → ℕ) → Type 0
RisesAreFew {L} Valid le joined extent =
    (calls : List (Call L)) (row : RowOf L) → All Valid row.cells → All Valid (bounds calls) → ups_in le joined calls row ≤ spare extent row.cells
