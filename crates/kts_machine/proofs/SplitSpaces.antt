-- The split cell of a space, and the space with that cell changed.
use Rattle.std.proofs.Common.{◌≡◌, refl, sym, ◌∙◌, ap, ◌⊎◌, inl, inr, Bool, true, false, cond, ℕ, zero, suc, ◌<◌, ◌≤◌, List, [], ◌∷◌, length, map, Option, Some, None, slice_get, ℤ, pos, arith}
use Rattle.std.specs.Prelude.{slice_set, int_lt, option_map, if◌then◌else◌}
use Rattle.std.proofs.lemmas.Int.{ints}
use Rattle.std.proofs.lemmas.List.{map-set}
use Rattle.std.proofs.lemmas.Option.{none-some, get_or_from_slice_get}
use Rattle.kts_abs.specs.declared.cell.Cell.{Cell}
use Rattle.kts_abs.specs.Cells.{value_of}
use Rattle.kts_abs.specs.InSpace.{only_of}
use Rattle.kts_abs.specs.Spaces.{is_wide, least_alone, split_cell}
use Rattle.kts_abs.specs.Values.{Abs, Win, Mem}
use Rattle.kts_code.specs.HeadSteps.{cell_in}
use Rattle.kts_code.specs.Machine.{with_cell}
use Rattle.kts_machine.proofs.QueueMarks.{some_is}
use Rattle.kts_machine.proofs.RaisedCells.{value_got}
use Rattle.kts_machine.specs.View.{single_count}

-- ---- the split cell

-- it is the first cell, or the split cell of the others
first_or_later : (wide : Bool) (later : Option ℕ) (k : ℕ) → (if wide then Some 0 else option_map suc later) ≡ Some k
    → ((wide ≡ true) × (0 ≡ k)) ⊎ ((n : ℕ) × ((later ≡ Some n) × (suc n ≡ k)))
first_or_later true later k e = inl (refl, some_is e)
first_or_later false None k e = absurd (none-some k e)
first_or_later false (Some n) k e = inr (n, (refl, some_is e))

pub split_within : (space : List Abs) (k : ℕ) → split_cell space ≡ Some k → k < length space
split_within [] k e = absurd (none-some k e)
split_within (a ∷ space) k e = elim (first_or_later (is_wide a) (split_cell space) k e) [
  | inl h ↦ omega (arith, h.1)
  | inr h ↦ omega (arith, split_within space h.0 h.1.0, h.1.1)
]

pub split_wide : (space : List Abs) (k : ℕ) (b : Abs) → split_cell space ≡ Some k → slice_get space k ≡ Some b → is_wide b ≡ true
split_wide [] k b e got = absurd (none-some k e)
split_wide (a ∷ space) k b e got = elim (first_or_later (is_wide a) (split_cell space) k e) [
  | inl h ↦ ap is_wide (sym (some_is (ap (slice_get (a ∷ space)) h.1 ∙ got))) ∙ h.0
  | inr h ↦ split_wide space h.0 b h.1.0 (ap (slice_get (a ∷ space)) h.1.1 ∙ got)
]

-- ---- how many cells are single

one_more : (wide : Bool) (n : ℕ) → cond wide n (suc n) ≤ suc n
one_more true n = omega arith
one_more false n = omega arith

single_most : (space : List Abs) → single_count space ≤ length space
single_most [] = omega arith
single_most (a ∷ space) = omega (arith, one_more (is_wide a) (single_count space), single_most space)

-- where a cell is wide, not all are
pub single_below : (space : List Abs) (k : ℕ) (a : Abs) → slice_get space k ≡ Some a → is_wide a ≡ true → single_count space < length space
single_below [] k a e h = absurd (none-some a e)
single_below (x ∷ space) zero a e h = rw (ap is_wide (some_is e) ∙ h) (omega (arith, single_most space))
single_below (x ∷ space) (suc k) a e h = omega (arith, one_more (is_wide x) (single_count space), single_below space k a e h)

-- a wide cell that becomes single is one more
pub single_grows : (space : List Abs) (k : ℕ) (a b : Abs) → slice_get space k ≡ Some a → is_wide a ≡ true → is_wide b ≡ false
    → single_count (slice_set space k b) ≡ suc (single_count space)
single_grows [] k a b e h f = absurd (none-some a e)
single_grows (x ∷ space) zero a b e h f = rw (f, ap is_wide (some_is e) ∙ h) refl
single_grows (x ∷ space) (suc k) a b e h f = grown (is_wide x) (single_count space) (single_count (slice_set space k b)) (single_grows space k a b e h f)
  where
    grown : (wide : Bool) (m n : ℕ) → n ≡ suc m → cond wide n (suc n) ≡ suc (cond wide m (suc m))
    grown true m n l = l
    grown false m n l = ap suc l

-- ---- the cell with its least value alone

not_below : (n : ℤ) → int_lt n n ≡ false
not_below n = grind (arith, ints)

pub alone_single : (a : Abs) → is_wide (least_alone a) ≡ false
alone_single (Win w) = not_below w.0
alone_single (Mem []) = refl
alone_single (Mem (m ∷ ms)) = refl

-- ---- a cell changed

pub cell_changed : {W : ℕ} (change : Abs → Abs) (list : List (Cell W)) (k : ℕ) (cell part : Cell W) → slice_get list k ≡ Some cell
    → value_of part ≡ change (value_of cell) → with_cell change k (map value_of list) ≡ map value_of (slice_set list k part)
cell_changed change list k cell part got e =
    let read : cell_in (map value_of list) k ≡ value_of cell =
    get_or_from_slice_get (map value_of list) k (value_of cell) (only_of (pos 0)) (value_got list k cell got) in
    ap (λ a. slice_set (map value_of list) k (change a)) read ∙ ap (slice_set (map value_of list) k) (sym e) ∙ sym (map-set value_of list k part)
