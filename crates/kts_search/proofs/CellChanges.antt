-- Spaces with one cell changed.
use Rattle.std.proofs.Common.{◌≡◌, ℕ, zero, suc, ◌+◌, ◌*◌, ◌<◌, ◌≤◌, Bool, true, false, ℤ, List, [], ◌∷◌, length, length-append, map, flat_map, slice_set, filter, refl, sym, ap, ◌∙◌, arith, ⊎_elim}
use Rattle.std.specs.List.{list_all}
use Rattle.std.proofs.Math.Nat.{mul-le-mul_left, mul-suc}
use Rattle.std.proofs.lemmas.List.{length-map}
use Rattle.std.proofs.lemmas.Bool.{and_parts, and_from, cases_Bool, true≢false}
use Rattle.kts_abs.specs.Demands.{Suits}
use Rattle.kts_abs.specs.declared.demand.Op.{Op}
use Rattle.kts_abs.specs.declared.demand.Op.TheVariants.{AtLeast, AtMost, Within, Without}
use Rattle.kts_abs.specs.Spaces.{IsAbove, IsSpace, holds, schedules_in, types}
use Rattle.kts_abs.specs.Values.{Abs, Win, Mem, allows, Refines, is_cell, room_of}
use Rattle.kts_abs.proofs.Splits.{above_along, above_self}
use Rattle.kts_plan.specs.Solutions.{cell_at}
use Rattle.kts_spec.specs.Places.{count_of}
use Rattle.kts_spec.specs.Schedules.{all, cell_values, schedules}
use Rattle.kts_spec.specs.Worlds.{World}
use Rattle.kts_search.specs.Propagation.{rises_left}

-- ---- one cell

pub get_changed : (t : List Abs) (c : ℕ) (v : Abs) → c < length t → cell_at (slice_set t c v) c ≡ v
get_changed [] c v h = absurd (omega arith)
get_changed (a ∷ t) zero v h = refl
get_changed (a ∷ t) (suc c) v h = get_changed t c v (omega arith)

pub get_other : (t : List Abs) (c k : ℕ) (v : Abs) → (c ≡ k → ⊥) → cell_at (slice_set t c v) k ≡ cell_at t k
get_other [] c k v h = refl
get_other (a ∷ t) zero zero v h = absurd (h refl)
get_other (a ∷ t) zero (suc k) v h = refl
get_other (a ∷ t) (suc c) zero v h = refl
get_other (a ∷ t) (suc c) (suc k) v h = get_other t c k v (λ e. h (ap suc e))

pub cell_is : (t : List Abs) (c : ℕ) → list_all is_cell t ≡ true → c < length t → is_cell (cell_at t c) ≡ true
cell_is [] c h l = absurd (omega arith)
cell_is (a ∷ t) zero h l = (and_parts (is_cell a) (list_all is_cell t) h).0
cell_is (a ∷ t) (suc c) h l = cell_is t c (and_parts (is_cell a) (list_all is_cell t) h).1 (omega arith)

cells_changed : (t : List Abs) (c : ℕ) (v : Abs) → list_all is_cell t ≡ true → is_cell v ≡ true → list_all is_cell (slice_set t c v) ≡ true
cells_changed [] c v h g = h
cells_changed (a ∷ t) zero v h g = and_from (is_cell v) (list_all is_cell t) g (and_parts (is_cell a) (list_all is_cell t) h).1
cells_changed (a ∷ t) (suc c) v h g =
    let q = and_parts (is_cell a) (list_all is_cell t) h in
    and_from (is_cell a) (list_all is_cell (slice_set t c v)) q.0 (cells_changed t c v q.1 g)

-- a part of a cell is of its kind
pub suits_part : (op : Op) (a b : Abs) → Suits op a → Refines b a → Suits op b
suits_part AtLeast (Win v) (Win w) s h = tt
suits_part AtMost (Win v) (Win w) s h = tt
suits_part Within (Mem ms) (Mem ns) s h = tt
suits_part Without (Mem ms) (Mem ns) s h = tt
suits_part AtLeast (Win v) (Mem ns) s h = absurd h
suits_part AtMost (Win v) (Mem ns) s h = absurd h
suits_part Within (Mem ms) (Win w) s h = absurd h
suits_part Without (Mem ms) (Win w) s h = absurd h
suits_part AtLeast (Mem ms) b s h = absurd s
suits_part AtMost (Mem ms) b s h = absurd s
suits_part Within (Win v) b s h = absurd s
suits_part Without (Win v) b s h = absurd s

-- ---- spaces

pub same_length : (t u : List Abs) → IsAbove t u → length u ≡ length t
same_length [] [] h = refl
same_length [] (b ∷ u) h = absurd h
same_length (a ∷ t) [] h = absurd h
same_length (a ∷ t) (b ∷ u) h = ap suc (same_length t u h.1)

pub above_get : (t u : List Abs) (c : ℕ) → IsAbove t u → c < length t → Refines (cell_at u c) (cell_at t c)
above_get [] u c h l = absurd (omega arith)
above_get (a ∷ t) [] c h l = absurd h
above_get (a ∷ t) (b ∷ u) zero h l = h.0
above_get (a ∷ t) (b ∷ u) (suc c) h l = above_get t u c h.1 (omega arith)

-- the space with a cell that lies within its cell is above
pub above_changed : (t : List Abs) (c : ℕ) (v : Abs) → list_all is_cell t ≡ true → Refines v (cell_at t c) → c < length t
    → IsAbove t (slice_set t c v)
above_changed [] c v h g l = absurd (omega arith)
above_changed (a ∷ t) zero v h g l = (g, above_self t (and_parts (is_cell a) (list_all is_cell t) h).1)
above_changed (a ∷ t) (suc c) v h g l =
    let q = and_parts (is_cell a) (list_all is_cell t) h in
    ((above_self (a ∷ []) (and_from (is_cell a) true q.0 refl)).0, above_changed t c v q.1 g (omega arith))

-- and below each space above whose cell lies within the new one
pub changed_above : (t u : List Abs) (c : ℕ) (v : Abs) → IsAbove t u → Refines (cell_at u c) v → IsAbove (slice_set t c v) u
changed_above [] [] c v h g = tt
changed_above [] (b ∷ u) c v h g = absurd h
changed_above (a ∷ t) [] c v h g = absurd h
changed_above (a ∷ t) (b ∷ u) zero v h g = (g, h.1)
changed_above (a ∷ t) (b ∷ u) (suc c) v h g = (h.0, changed_above t u c v h.1 g)

pub space_changed : (w : World) (t : List Abs) (c : ℕ) (v : Abs) → IsSpace w t → is_cell v ≡ true → Refines v (cell_at t c) → c < length t
    → IsSpace w (slice_set t c v)
space_changed w t c v s h g l = record {
  above = above_along (types w) t (slice_set t c v) (above_changed t c v s.cells g l) s.above;
  cells = cells_changed t c v s.cells h;
}

-- a cell with less room pays for its readers
pub left_changed : (count : ℕ → ℕ) (t : List Abs) (i c : ℕ) (v : Abs) → c < length t → room_of v < room_of (cell_at t c)
    → rises_left count i (slice_set t c v) + count (i + c) ≤ rises_left count i t
left_changed count [] i c v h lt = absurd (omega arith)
left_changed count (a ∷ t) i zero v h lt =
    let m = mul-le-mul_left (count i) lt in
    let e : i + 0 ≡ i = omega arith in
    let w = ap count e in
    omega (arith, m, mul-suc (count i) (room_of v))
left_changed count (a ∷ t) i (suc c) v h lt =
    let ih = left_changed count t (suc i) c v (omega arith) lt in
    let e : suc i + c ≡ i + suc c = omega arith in
    let w = ap count e in
    omega arith

-- ---- a space above another holds no more schedules

allowed : (a b : Abs) (n : ℤ) → Refines b a → allows b n ≡ true → allows a n ≡ true
allowed (Win v) (Win w) n h e = h.within n e
allowed (Win v) (Mem ns) n h e = absurd h
allowed (Mem ms) (Win w) n h e = absurd h
allowed (Mem ms) (Mem ns) n h e = h.within n e

held : (t u : List Abs) (r : List ℤ) → IsAbove t u → holds u r ≡ true → holds t r ≡ true
held [] [] r h e = e
held [] (b ∷ u) r h e = absurd h
held (a ∷ t) [] r h e = absurd h
held (a ∷ t) (b ∷ u) [] h e = absurd (true≢false (sym e))
held (a ∷ t) (b ∷ u) (n ∷ r) h e =
    let q = and_parts (allows b n) (holds u r) e in
    and_from (allows a n) (holds t r) (allowed a b n h.0 q.0) (held t u r h.1 q.1)

fewer : {X : Type 0} (f g : X → Bool) (xs : List X) → ((x : X) → f x ≡ true → g x ≡ true) → length (filter f xs) ≤ length (filter g xs)
fewer f g [] h = omega arith
fewer f g (x ∷ xs) h =
    let ih = fewer f g xs h in
    ⊎_elim
    (λ (e : f x ≡ true). let k = h x e in rw (e, k) (omega arith))
    (λ (e : f x ≡ false). ⊎_elim (λ (k : g x ≡ true). rw (e, k) (omega arith)) (λ (k : g x ≡ false). rw (e, k) ih) (cases_Bool (g x)))
    (cases_Bool (f x))

pub fewer_schedules : (w : World) (s t : List Abs) → IsAbove s t → length (schedules_in w t) ≤ length (schedules_in w s)
fewer_schedules w s t h = fewer (holds t) (holds s) (schedules w) (λ r e. held s t r h e)

all_kept : {X : Type 0} (f : X → Bool) (xs : List X) → length (filter f xs) ≤ length xs
all_kept f [] = omega arith
all_kept f (x ∷ xs) =
    let ih = all_kept f xs in
    ⊎_elim (λ (e : f x ≡ true). rw e (omega arith)) (λ (e : f x ≡ false). rw e (omega arith)) (cases_Bool (f x))

-- and each space no more than there are
pieces : {X : Type 0} (xs : List X) (rows : List (List X)) → length (flat_map (λ x. map (λ rest. x ∷ rest) rows) xs) ≡ length xs * length rows
pieces [] rows = omega arith
pieces (x ∷ xs) rows =
    let first = map (λ rest. x ∷ rest) rows in
    omega (arith, length-append first (flat_map (λ x. map (λ rest. x ∷ rest) rows) xs), length-map rows (λ rest. x ∷ rest), pieces xs rows)

length-all : {X : Type 0} (lists : List (List X)) → length (all lists) ≡ count_of (map length lists)
length-all [] = refl
length-all (xs ∷ lists) = pieces xs (all lists) ∙ ap (λ n. length xs * n) (length-all lists)

pub few_schedules : (w : World) (t : List Abs) → length (schedules_in w t) ≤ count_of (map length (cell_values w))
few_schedules w t = omega (arith, all_kept (holds t) (schedules w), length-all (cell_values w))
