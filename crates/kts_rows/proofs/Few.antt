-- Rises are few.
use Rattle.std.proofs.Common.{◌≡◌, refl, ℕ, ◌+◌, ◌≤◌, inl, inr, Bool, false, [], ◌∷◌, All, Option, Some, None, slice_get, arith}
use Rattle.std.proofs.lemmas.Bool.{cases_Bool}
use Rattle.kts_semi.specs.Semilattice.{IsSemi}
use Rattle.kts_semi.specs.declared.semi.Rise.{Rise}
use Rattle.kts_rows.specs.Rows.{RowOf, risen, risen_from, joined_in, marked}
use Rattle.kts_rows.specs.Rises.{spare, ups, rise_call, mark_call, bounds, ups_in, RisesAreFew}
use Rattle.kts_rows.proofs.Every.{All-head, All-tail, All-get, All-set}
use Rattle.kts_rows.proofs.Spare.{Falls-join, spare-set}

-- a rise keeps the cells valid and costs what it answers
record Pays {L : Type 0} (Valid : L → Type 0) (extent : L → ℕ) (row : RowOf L) (r : Rise × RowOf L) : Type 0 where
  valid : All Valid r.1.cells
  paid : ups r.0 + spare extent r.1.cells ≤ spare extent row.cells

Pays-join : {L : Type 0} (Valid : L → Type 0) (le : L → L → Bool) (joined : L → L → Option L) (extent : L → ℕ) → IsSemi Valid le joined extent →
    (at : ℕ) (bound cell : L) (row : RowOf L) (o : Option L) → All Valid row.cells → Valid bound → slice_get row.cells at ≡ Some cell →
    le bound cell ≡ false → joined cell bound ≡ o → Pays Valid extent row (joined_in at row o)
Pays-join Valid le joined extent laws at bound cell row None v w g unmet j = record { valid = v; paid = omega arith }
Pays-join Valid le joined extent laws at bound cell row (Some next) v w g unmet j =
    let c = All-get Valid row.cells at cell v g in
    record {
      valid = All-set Valid row.cells at next v (laws.some cell bound next c w j).valid;
      paid = omega (arith, spare-set extent row.cells at cell next g (Falls-join Valid le joined extent laws cell bound next c w unmet j));
    }

Pays-rise : {L : Type 0} (Valid : L → Type 0) (le : L → L → Bool) (joined : L → L → Option L) (extent : L → ℕ) → IsSemi Valid le joined extent →
    (at : ℕ) (bound : L) (row : RowOf L) (o : Option L) → All Valid row.cells → Valid bound → slice_get row.cells at ≡ o →
    Pays Valid extent row (risen_from le joined at bound row o)
Pays-rise Valid le joined extent laws at bound row None v w g = record { valid = v; paid = omega arith }
Pays-rise Valid le joined extent laws at bound row (Some cell) v w g = elim (cases_Bool (le bound cell)) [
  | inl t ↦ rw t (record { valid = v; paid = omega arith })
  | inr f ↦ rw f (Pays-join Valid le joined extent laws at bound cell row (joined cell bound) v w g f refl)
]

pub rises_few : {L : Type 0} (Valid : L → Type 0) (le : L → L → Bool) (joined : L → L → Option L) (extent : L → ℕ) → IsSemi Valid le joined extent →
    RisesAreFew Valid le joined extent
unfolding ups_in bounds
rises_few Valid le joined extent laws [] row v b = omega arith
rises_few Valid le joined extent laws (rise_call at bound ∷ calls) row v b =
    let p = Pays-rise Valid le joined extent laws at bound row (slice_get row.cells at) v (All-head Valid bound (bounds calls) b) refl in
    omega (arith, p.paid, rises_few Valid le joined extent laws calls (risen le joined at bound row).1 p.valid (All-tail Valid bound (bounds calls) b))
rises_few Valid le joined extent laws (mark_call ∷ calls) row v b = rises_few Valid le joined extent laws calls (marked row) v b
