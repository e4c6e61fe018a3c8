-- A cell that is raised to a part of it, and walks over the cells of a row.
use Rattle.std.proofs.Common.{◌≡◌, refl, sym, ◌∙◌, ap, ℕ, zero, suc, ◌+◌, ◌<◌, ◌≤◌, inl, inr, true, false, List, [], ◌∷◌, ◌++◌, length, take, drop, map, Option, Some, None, option_map, slice_get, slice_set, if◌then◌else◌, arith}
use Rattle.std.proofs.Math.Numerals.{add-one}
use Rattle.std.proofs.Math.Seq.{take-suc-set}
use Rattle.std.proofs.lemmas.Bool.{cases_Bool}
use Rattle.std.proofs.lemmas.List.{drop_all}
use Rattle.std.proofs.lemmas.Option.{none-some, slice_get-map}
use Rattle.kts_abs.specs.declared.cell.Cell.{Cell}
use Rattle.kts_abs.specs.Cells.{IsValid, is_above, joined, value_of}
use Rattle.kts_abs.specs.CellLaws.{cell_laws}
use Rattle.kts_abs.specs.Spaces.{is_wide, split_cell}
use Rattle.kts_abs.specs.Values.{Abs}
use Rattle.kts_rows.specs.Rows.{RowOf, risen}
use Rattle.kts_machine.specs.CellParts.{IsPartAt}
use Rattle.kts_machine.proofs.QueueMarks.{some_is}

-- a part of a cell is their join
joined-part : {W : ℕ} → (a b : Cell W) → IsValid a → IsValid b → is_above a b ≡ true → (o : Option (Cell W)) → joined a b ≡ o → o ≡ Some b
joined-part {W} a b v w above None e = absurd (cell_laws.none a b b v w e w above (cell_laws.reflexive b w))
joined-part {W} a b v w above (Some c) e =
    let least = cell_laws.some a b c v w e in
    ap Some (cell_laws.antisymmetric c b least.valid w (least.least b w above (cell_laws.reflexive b w)) least.right)

set_same : {X : Type 0} (xs : List X) (k : ℕ) (x : X) → slice_get xs k ≡ Some x → slice_set xs k x ≡ xs
set_same [] k x e = refl
set_same (y ∷ xs) zero x e = ap (λ z. z ∷ xs) (sym (some_is e))
set_same (y ∷ xs) (suc k) x e = ap (λ ys. y ∷ ys) (set_same xs k x e)

pub risen-part : {W : ℕ} → (row : RowOf (Cell W)) (k : ℕ) (part : Cell W) → IsPartAt row.cells k part →
    (risen is_above joined k part row).1 ≡ record row { cells = slice_set row.cells k part }
risen-part {W} row k part h = elim (cases_Bool (is_above part h.cell)) [
  | inl below ↦ let same : h.cell ≡ part = cell_laws.antisymmetric h.cell part h.cell_valid h.part_valid h.above below in
      rw (h.got, below) (ap (λ (cells : List (Cell W)). record row { cells = cells }) (sym (set_same row.cells k part (h.got ∙ ap Some same))))
  | inr apart ↦ rw (h.got, apart, joined-part h.cell part h.cell_valid h.part_valid h.above (joined h.cell part) refl) refl
]

-- ---- the first cell with two values or more

-- a place further on
abbrev pub shift : ℕ → Option ℕ → Option ℕ
shift k None = None
shift k (Some n) = Some (k + n)

drop-got : {X : Type 0} (xs : List X) (k : ℕ) (x : X) → slice_get xs k ≡ Some x → drop k xs ≡ x ∷ drop (suc k) xs
drop-got [] k x e = absurd (none-some x e)
drop-got (y ∷ xs) zero x e = ap (λ z. z ∷ xs) (some_is e)
drop-got (y ∷ xs) (suc k) x e = drop-got xs k x e

pub value_got : {W : ℕ} → (cells : List (Cell W)) (k : ℕ) (cell : Cell W) → slice_get cells k ≡ Some cell → slice_get (map value_of cells) k ≡ Some (value_of cell)
value_got {W} cells k cell e = slice_get-map value_of cells k ∙ ap (option_map value_of) e

pub split-here : {W : ℕ} → (cells : List (Cell W)) (k : ℕ) (cell : Cell W) → slice_get cells k ≡ Some cell → is_wide (value_of cell) ≡ true →
    shift k (split_cell (drop k (map value_of cells))) ≡ Some k
split-here {W} cells k cell e wide =
    let none : k + 0 ≡ k = omega arith in
    ap (λ s. shift k (split_cell s)) (drop-got (map value_of cells) k (value_of cell) (value_got cells k cell e))
    ∙ ap (λ b. shift k (if b then Some 0 else option_map suc (split_cell (drop (suc k) (map value_of cells))))) wide ∙ ap Some none

shift-suc : (k : ℕ) (o : Option ℕ) → shift k (option_map suc o) ≡ shift (k + 1) o
shift-suc k None = refl
shift-suc k (Some n) = let e : k + suc n ≡ k + 1 + n = omega arith in ap Some e

pub split-later : {W : ℕ} → (cells : List (Cell W)) (k : ℕ) (cell : Cell W) → slice_get cells k ≡ Some cell → is_wide (value_of cell) ≡ false →
    shift k (split_cell (drop k (map value_of cells))) ≡ shift (k + 1) (split_cell (drop (k + 1) (map value_of cells)))
split-later {W} cells k cell e single =
    ap (λ s. shift k (split_cell s)) (drop-got (map value_of cells) k (value_of cell) (value_got cells k cell e))
    ∙ ap (λ b. shift k (if b then Some 0 else option_map suc (split_cell (drop (suc k) (map value_of cells))))) single
    ∙ shift-suc k (split_cell (drop (suc k) (map value_of cells)))
    ∙ ap (λ n. shift (k + 1) (split_cell (drop n (map value_of cells)))) (sym (add-one k))

pub split-end : {W : ℕ} → (cells : List (Cell W)) (k : ℕ) → length (map value_of cells) ≤ k → shift k (split_cell (drop k (map value_of cells))) ≡ None
split-end {W} cells k h = ap (λ s. shift k (split_cell s)) (drop_all k (map value_of cells) h)

pub split-begin : (space : List Abs) → shift 0 (split_cell (drop 0 space)) ≡ split_cell space
split-begin [] = refl
split-begin (a ∷ space) = from_none (split_cell (a ∷ space))
  where
    from_none : (o : Option ℕ) → shift 0 o ≡ o
    from_none None = refl
    from_none (Some n) = let e : 0 + n ≡ n = omega arith in ap Some e

-- ---- copies

pub take-got : {X : Type 0} (xs : List X) (k : ℕ) (x : X) → slice_get xs k ≡ Some x → take (suc k) xs ≡ take k xs ++ x ∷ []
take-got [] k x e = absurd (none-some x e)
take-got (y ∷ xs) zero x e = ap (λ z. z ∷ []) (some_is e)
take-got (y ∷ xs) (suc k) x e = ap (λ ys. y ∷ ys) (take-got xs k x e)

-- one more of a list that is written place by place
pub copied-more : {X Y : Type 0} (f : X → Y) (to : List Y) (from : List X) (k : ℕ) (x : X) → k < length to → slice_get from k ≡ Some x → take k to ≡ map f (take k from) →
    take (k + 1) (slice_set to k (f x)) ≡ map f (take (k + 1) from)
copied-more f to from k x h e same =
    ap (λ n. take n (slice_set to k (f x))) (add-one k) ∙ take-suc-set to k (f x) h ∙ ap (λ ys. ys ++ f x ∷ []) same
    ∙ sym (ap (λ n. map f (take n from)) (add-one k) ∙ ap (map f) (take-got from k x e) ∙ map-append f (take k from) (x ∷ []))
  where
    map-append : {X Y : Type 0} (f : X → Y) (xs ys : List X) → map f (xs ++ ys) ≡ map f xs ++ map f ys
    map-append f [] ys = refl
    map-append f (x ∷ xs) ys = ap (λ zs. f x ∷ zs) (map-append f xs ys)

pub same-more : {X : Type 0} (to from : List X) (k : ℕ) (x : X) → k < length to → slice_get from k ≡ Some x → take k to ≡ take k from →
    take (k + 1) (slice_set to k x) ≡ take (k + 1) from
same-more to from k x h e same =
    ap (λ n. take n (slice_set to k x)) (add-one k) ∙ take-suc-set to k x h ∙ ap (λ ys. ys ++ x ∷ []) same
    ∙ sym (ap (λ n. take n from) (add-one k) ∙ take-got from k x e)
