-- The schedules in a space are a value of each cell, in every way.
use Rattle.std.proofs.Common.{◌≡◌, refl, sym, ◌∙◌, ap, ⊎_elim, true, false, ◌&&◌, ℤ, pos, negsuc, ◌-ℤ◌, ◌≤ℤ◌, int_lt, List, [], ◌∷◌, map, filter, arith}
use Rattle.std.proofs.lemmas.Int.{ints}
use Rattle.std.proofs.lemmas.Bool.{and_parts, and_from, cases_Bool, true≢false}
use Rattle.std.proofs.lemmas.List.Elements.{filter-append}
use Rattle.std.specs.List.{list_all, flat_map}
use Rattle.kts_spec.specs.declared.declarations.ValueType.{ValueType}
use Rattle.kts_spec.specs.declared.declarations.ValueType.TheVariants.{Int, Member}
use Rattle.kts_spec.specs.Related.{Pairs}
use Rattle.kts_spec.specs.Schedules.{Cell, cells, values_of, numbers, all}
use Rattle.kts_spec.specs.Worlds.{World, size_of}
use Rattle.kts_abs.specs.Abstraction.{Finer}
use Rattle.kts_abs.specs.Windows.{Window, in_window}
use Rattle.kts_abs.specs.Values.{Abs, Win, Mem, has, allows, Refines, is_cell, rises_from, members_of}
use Rattle.kts_abs.specs.Spaces.{holds, type_value, IsSpace, schedules_in}
use Rattle.kts_abs.proofs.WindowEnds.{inside_from}
use Rattle.kts_base.proofs.Orders.{yes_int_lt}
use Rattle.kts_abs.proofs.Rising.{rising_same, filter_rises, has_filter, has_head, numbers_has, numbers_rise, positions_rise, member_above, same_Bool}

-- the numbers of a window in another are its own
pub windows_kept : (v : Window) (lo hi : ℤ) → Finer in_window v (lo, hi) → filter (in_window v) (numbers lo hi) ≡ numbers v.0 v.1
windows_kept v lo hi f =
    let i = inside_from v (lo, hi) f in
    let l : lo ≤ℤ hi = omega (arith, ints) in
    rising_same (lo -ℤ pos 1) (filter (in_window v) (numbers lo hi)) (numbers v.0 v.1)
    (filter_rises (in_window v) (lo -ℤ pos 1) (numbers lo hi) (numbers_rise lo hi (lo -ℤ pos 1) (omega (arith, ints))))
    (numbers_rise v.0 v.1 (lo -ℤ pos 1) (omega (arith, ints)))
    (λ m. has_filter (in_window v) m (numbers lo hi)
    ∙ ap (λ b. in_window v m && b) (numbers_has lo hi m l)
    ∙ same_Bool (in_window v m && in_window (lo, hi) m) (in_window v m) (λ h. (and_parts (in_window v m) (in_window (lo, hi) m) h).0) (λ h. and_from (in_window v m) (in_window (lo, hi) m) h (f.within m h))
    ∙ sym (numbers_has v.0 v.1 m i.solid))

-- the members of a set in a wider one are its own
pub members_kept : (ms vs : List ℤ) → is_cell (Mem ms) ≡ true → rises_from (negsuc 0) vs ≡ true → Finer has ms vs → filter (has ms) vs ≡ ms
members_kept [] vs c r f = absurd (true≢false (sym c))
members_kept (m ∷ ms) vs c r f =
    rising_same (negsuc 0) (filter (has (m ∷ ms)) vs) (m ∷ ms)
    (filter_rises (has (m ∷ ms)) (negsuc 0) vs r)
    (and_from (int_lt (negsuc 0) m) (rises_from m ms) (yes_int_lt (negsuc 0) m (member_above (negsuc 0) vs m r (f.within m (has_head m ms)))) c)
    (λ n. has_filter (has (m ∷ ms)) n vs
    ∙ same_Bool (has (m ∷ ms) n && has vs n) (has (m ∷ ms) n) (λ h. (and_parts (has (m ∷ ms) n) (has vs n) h).0) (λ h. and_from (has (m ∷ ms) n) (has vs n) h (f.within n h)))

-- of a type's values those that a cell allows are the cell's
pub cell_kept : (w : World) (kind : ValueType) (a : Abs) → Refines a (type_value w kind) → is_cell a ≡ true → filter (allows a) (values_of w kind) ≡ members_of a
cell_kept w (Int lo hi) (Win v) h c = windows_kept v lo hi h
cell_kept w (Int lo hi) (Mem ms) h c = absurd h
cell_kept w (Member i) (Win v) h c = absurd h
cell_kept w (Member i) (Mem ms) h c = members_kept ms (values_of w (Member i)) c (positions_rise 0 (size_of w i) (negsuc 0) (omega (arith, ints))) h

-- a first value that is allowed keeps the schedules that hold in the rest
row_kept : (a : Abs) (t : List Abs) (x : ℤ) (rows : List (List ℤ)) → allows a x ≡ true → filter (holds (a ∷ t)) (map (λ rest. x ∷ rest) rows) ≡ map (λ rest. x ∷ rest) (filter (holds t) rows)
row_kept a t x [] e = refl
row_kept a t x (row ∷ rows) e =
    ⊎_elim
    (λ (h : holds t row ≡ true). rw (e, h, row_kept a t x rows e) refl)
    (λ (h : holds t row ≡ false). rw (e, h) (row_kept a t x rows e))
    (cases_Bool (holds t row))

-- one that is not allowed keeps none
row_dropped : (a : Abs) (t : List Abs) (x : ℤ) (rows : List (List ℤ)) → allows a x ≡ false → filter (holds (a ∷ t)) (map (λ rest. x ∷ rest) rows) ≡ []
row_dropped a t x [] e = refl
row_dropped a t x (row ∷ rows) e = rw (e) (row_dropped a t x rows e)

-- the first cell filters the first values
each_kept : (a : Abs) (t : List Abs) (xs : List ℤ) (rows kept : List (List ℤ)) → filter (holds t) rows ≡ kept
    → filter (holds (a ∷ t)) (flat_map (λ x. map (λ rest. x ∷ rest) rows) xs) ≡ flat_map (λ x. map (λ rest. x ∷ rest) kept) (filter (allows a) xs)
each_kept a t [] rows kept h = refl
each_kept a t (x ∷ xs) rows kept h =
    filter-append (holds (a ∷ t)) (map (λ rest. x ∷ rest) rows) (flat_map (λ x. map (λ rest. x ∷ rest) rows) xs)
    ∙ ⊎_elim
    (λ (e : allows a x ≡ true). rw (row_kept a t x rows e, h, each_kept a t xs rows kept h, e) refl)
    (λ (e : allows a x ≡ false). rw (row_dropped a t x rows e, each_kept a t xs rows kept h, e) refl)
    (cases_Bool (allows a x))

-- each cell keeps its own values
pub all_kept : (t : List Abs) (lists : List (List ℤ)) → Pairs (λ a xs. filter (allows a) xs ≡ members_of a) t lists → filter (holds t) (all lists) ≡ all (map members_of t)
all_kept [] [] h = refl
all_kept [] (xs ∷ lists) h = absurd h
all_kept (a ∷ t) [] h = absurd h
all_kept (a ∷ t) (xs ∷ lists) h =
    each_kept a t xs (all lists) (all (map members_of t)) (all_kept t lists h.1)
    ∙ ap (flat_map (λ x. map (λ rest. x ∷ rest) (all (map members_of t)))) h.0

-- the cells of a space keep their own of the values of their types
cells_kept : (w : World) (cs : List Cell) (t : List Abs) → Pairs Refines t (map (λ (c : Cell). type_value w c.kind) cs) → list_all is_cell t ≡ true
    → Pairs (λ a xs. filter (allows a) xs ≡ members_of a) t (map (λ (c : Cell). values_of w c.kind) cs)
cells_kept w [] [] h k = tt
cells_kept w [] (a ∷ t) h k = absurd h
cells_kept w (c ∷ cs) [] h k = absurd h
cells_kept w (c ∷ cs) (a ∷ t) h k =
    let p = and_parts (is_cell a) (list_all is_cell t) k in
    (cell_kept w c.kind a h.0 p.0, cells_kept w cs t h.1 p.1)

-- the schedules in a space are a value of each cell, in every way
pub schedules_in_space : (w : World) (t : List Abs) → IsSpace w t → schedules_in w t ≡ all (map members_of t)
schedules_in_space w t s = all_kept t (map (λ (c : Cell). values_of w c.kind) (cells w)) (cells_kept w (cells w) t s.above s.cells)
