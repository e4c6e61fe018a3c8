-- The two sides of a split, and the schedules in them.
use Rattle.std.proofs.Common.{◌≡◌, ◌≢◌, refl, sym, ◌∙◌, ap, subst, ⊎_elim, Bool, true, false, ℕ, zero, suc, ◌+◌, ◌<◌, ℤ, pos, ◌+ℤ◌, ◌-ℤ◌, nat_abs, List, [], ◌∷◌, ◌++◌, map, filter, Option, Some, None, append-nil, slice_set, slice_index_or, arith}
use Rattle.std.specs.Prelude.{option_map}
use Rattle.std.proofs.lemmas.Bool.{and_parts, and_from, cases_Bool, true≢false}
use Rattle.std.proofs.lemmas.Grind.{flat_map-append}
use Rattle.std.proofs.lemmas.List.{map-append}
use Rattle.std.proofs.lemmas.List.Elements.{filter-append}
use Rattle.std.specs.List.{list_all, flat_map, range_with_len}
use Rattle.kts_spec.specs.declared.declarations.ValueType.{ValueType}
use Rattle.kts_spec.specs.declared.declarations.ValueType.TheVariants.{Int, Member}
use Rattle.kts_spec.specs.Answers.{kept_of, is_kept}
use Rattle.kts_spec.specs.Schedules.{Cell, cells, values_of, schedules, all}
use Rattle.kts_spec.specs.Worlds.{World}
use Rattle.kts_abs.specs.Values.{Abs, Win, Mem, is_cell, members_of}
use Rattle.kts_abs.specs.Spaces.{holds, IsAbove, types, IsSpace, schedules_in, is_wide, least_in, least_alone, least_dropped, split_cell, with_split, left, right, room_in, IsSide, IsSplit, IsInitial, type_value, initial}
use Rattle.kts_abs.proofs.Enumerations.{schedules_in_space}
use Rattle.kts_abs.proofs.Splits.{Changes, cell_split, cell_single, alone_changes, dropped_changes, above_along, above_self, within_self}

-- a split cell after the first
some_later : (o : Option ℕ) (k : ℕ) → option_map suc o ≡ Some k → (j : ℕ) × (k ≡ suc j) × (o ≡ Some j)
some_later None k e = cc
some_later (Some j) k e = (j, cc, refl)

none_later : (o : Option ℕ) → option_map suc o ≡ None → o ≡ None
none_later None e = refl
none_later (Some j) e = cc

-- the cells before the split cell are single, and it is not
splits_by : (P : List Abs → ℕ → Type 0) → ((a : Abs) (t : List Abs) → is_wide a ≡ true → P (a ∷ t) zero)
    → ((a : Abs) (t : List Abs) (k : ℕ) → is_wide a ≡ false → P t k → P (a ∷ t) (suc k))
    → (t : List Abs) (k : ℕ) → split_cell t ≡ Some k → P t k
splits_by P w s [] k e = cc
splits_by P w s (a ∷ t) k e =
    ⊎_elim
    (λ (h : is_wide a ≡ true). let z = rw h at e in subst (P (a ∷ t)) (first k z) (w a t h))
    (λ (h : is_wide a ≡ false). let z = rw h at e in let j = some_later (split_cell t) k z in subst (P (a ∷ t)) (sym j.1) (s a t j.0 h (splits_by P w s t j.0 j.2)))
    (cases_Bool (is_wide a))
  where
    first : (k : ℕ) → Some 0 ≡ Some k → zero ≡ k
    first k e = cc

-- the cell that is changed is the split cell
at_place : (f : Abs → Abs) (t : List Abs) (k : ℕ) → split_cell t ≡ Some k → with_split f t ≡ slice_set t k (f (slice_index_or t k (Mem [])))
at_place f = splits_by (λ t k. with_split f t ≡ slice_set t k (f (slice_index_or t k (Mem []))))
    (λ a t h. rw h refl)
    (λ a t k h ih. rw h (ap (λ s. a ∷ s) ih))

-- the changed space has values of cells, knows more and has less room
changed_cells : (f : Abs → Abs) → Changes f → (t : List Abs) (k : ℕ) → split_cell t ≡ Some k → list_all is_cell t ≡ true → list_all is_cell (with_split f t) ≡ true
changed_cells f c = splits_by (λ t k. list_all is_cell t ≡ true → list_all is_cell (with_split f t) ≡ true)
    (λ a t h g. let p = and_parts (is_cell a) (list_all is_cell t) g in rw h (and_from (is_cell (f a)) (list_all is_cell t) (c.cell a h p.0) p.1))
    (λ a t k h ih g. let p = and_parts (is_cell a) (list_all is_cell t) g in rw h (and_from (is_cell a) (list_all is_cell (with_split f t)) p.0 (ih p.1)))

changed_above : (f : Abs → Abs) → Changes f → (t : List Abs) (k : ℕ) → split_cell t ≡ Some k → list_all is_cell t ≡ true → IsAbove t (with_split f t)
changed_above f c = splits_by (λ t k. list_all is_cell t ≡ true → IsAbove t (with_split f t))
    (λ a t h g. let p = and_parts (is_cell a) (list_all is_cell t) g in rw h (c.within a h p.0, above_self t p.1))
    (λ a t k h ih g. let p = and_parts (is_cell a) (list_all is_cell t) g in rw h (within_self a p.0, ih p.1))

changed_room : (f : Abs → Abs) → Changes f → (t : List Abs) (k : ℕ) → split_cell t ≡ Some k → list_all is_cell t ≡ true → room_in (with_split f t) < room_in t
changed_room f c = splits_by (λ t k. list_all is_cell t ≡ true → room_in (with_split f t) < room_in t)
    (λ a t h g. let p = and_parts (is_cell a) (list_all is_cell t) g in let r = c.room a h p.0 in rw h (omega arith))
    (λ a t k h ih g. let p = and_parts (is_cell a) (list_all is_cell t) g in let r = ih p.1 in rw h (omega arith))

-- one value first
single_first : (xs : List ℤ) (m : ℤ) (lists : List (List ℤ)) → xs ≡ m ∷ [] → all (xs ∷ lists) ≡ map (λ rest. m ∷ rest) (all lists)
single_first xs m lists e = rw e (append-nil (map (λ rest. m ∷ rest) (all lists)))

-- first values in two parts give schedules in two parts
wide_first : (xs ys zs : List ℤ) (lists : List (List ℤ)) → xs ≡ ys ++ zs → all (xs ∷ lists) ≡ all (ys ∷ lists) ++ all (zs ∷ lists)
wide_first xs ys zs lists e = rw e (flat_map-append (λ x. map (λ rest. x ∷ rest) (all lists)) ys zs)

-- a space is split into its sides
all_split : (t : List Abs) (k : ℕ) → split_cell t ≡ Some k → list_all is_cell t ≡ true → all (map members_of t) ≡ all (map members_of (left t)) ++ all (map members_of (right t))
all_split = splits_by (λ t k. list_all is_cell t ≡ true → all (map members_of t) ≡ all (map members_of (left t)) ++ all (map members_of (right t)))
    (λ a t h g. rw (h) (wide_first (members_of a) (members_of (least_alone a)) (members_of (least_dropped a)) (map members_of t) (cell_split a h)))
    (λ a t k h ih g.
    let p = and_parts (is_cell a) (list_all is_cell t) g in
    let one = cell_single a h p.0 in
    rw h (single_first (members_of a) (least_in a) (map members_of t) one
    ∙ ap (map (λ rest. least_in a ∷ rest)) (ih p.1)
    ∙ map-append (λ rest. least_in a ∷ rest) (all (map members_of (left t))) (all (map members_of (right t)))
    ∙ sym (ap (λ xs. xs ++ all (members_of a ∷ map members_of (right t))) (single_first (members_of a) (least_in a) (map members_of (left t)) one)
    ∙ ap (λ ys. map (λ rest. least_in a ∷ rest) (all (map members_of (left t))) ++ ys) (single_first (members_of a) (least_in a) (map members_of (right t)) one))))

-- a space of single cells
all_single : (t : List Abs) → split_cell t ≡ None → list_all is_cell t ≡ true → all (map members_of t) ≡ map least_in t ∷ []
all_single [] e g = refl
all_single (a ∷ t) e g =
    let p = and_parts (is_cell a) (list_all is_cell t) g in
    ⊎_elim
    (λ (h : is_wide a ≡ true). let z = rw h at e in cc)
    (λ (h : is_wide a ≡ false).
    let z = rw h at e in
    single_first (members_of a) (least_in a) (map members_of t) (cell_single a h p.0)
    ∙ ap (map (λ rest. least_in a ∷ rest)) (all_single t (none_later (split_cell t) z) p.1))
    (cases_Bool (is_wide a))

-- ---- some schedule

-- a list with its first item
record Begins {X : Type 0} (xs : List X) : Type 0 where
  first : X
  rest : List X
  is : xs ≡ first ∷ rest

-- a cell has a least value
members_begin : (a : Abs) → is_cell a ≡ true → Begins (members_of a)
members_begin (Win w) c = record {
  first = w.0 +ℤ pos 0;
  rest = map (λ i. w.0 +ℤ pos i) (range_with_len (0 + 1) (nat_abs (w.1 -ℤ w.0)));
  is = ap (λ k. map (λ i. w.0 +ℤ pos i) (range_with_len 0 k)) (one_more (nat_abs (w.1 -ℤ w.0)));
}
  where
    one_more : (n : ℕ) → n + 1 ≡ suc n
    one_more n = omega arith
members_begin (Mem []) c = absurd (true≢false (sym c))
members_begin (Mem (m ∷ ms)) c = record { first = m; rest = ms; is = refl }

-- a space has a first schedule
all_begin : (t : List Abs) → list_all is_cell t ≡ true → Begins (all (map members_of t))
all_begin [] c = record { first = []; rest = []; is = refl }
all_begin (a ∷ t) c =
    let p = and_parts (is_cell a) (list_all is_cell t) c in
    let m = members_begin a p.0 in
    let b = all_begin t p.1 in
    record {
      first = m.first ∷ b.first;
      rest = map (λ rest. m.first ∷ rest) b.rest ++ flat_map (λ x. map (λ rest. x ∷ rest) (all (map members_of t))) m.rest;
      is = rw (m.is) (ap (λ rows. map (λ rest. m.first ∷ rest) rows ++ flat_map (λ x. map (λ rest. x ∷ rest) (all (map members_of t))) m.rest) b.is);
    }

-- a list with a first item is not empty
not_empty : {X : Type 0} (xs : List X) → Begins xs → xs ≢ []
not_empty xs b e = let h : b.first ∷ b.rest ≡ [] = sym b.is ∙ e in cc

-- ---- the law

-- two filters, in either order
filter_swap : {X : Type 0} (p q : X → Bool) (xs : List X) → filter p (filter q xs) ≡ filter q (filter p xs)
filter_swap p q [] = refl
filter_swap p q (x ∷ xs) =
    ⊎_elim
    (λ (h : p x ≡ true). ⊎_elim (λ (k : q x ≡ true). rw (k, h, k, filter_swap p q xs) refl) (λ (k : q x ≡ false). rw (k, h, k) (filter_swap p q xs)) (cases_Bool (q x)))
    (λ (h : p x ≡ false). ⊎_elim (λ (k : q x ≡ true). rw (k, h) (filter_swap p q xs)) (λ (k : q x ≡ false). rw (k, h) (filter_swap p q xs)) (cases_Bool (q x)))
    (cases_Bool (p x))

-- a side of a split
side : (w : World) (t : List Abs) (k : ℕ) (f : Abs → Abs) → Changes f → IsSpace w t → split_cell t ≡ Some k → IsSide w t k f (with_split f t)
side w t k f c s e =
    let cells = changed_cells f c t k e s.cells in
    let above = changed_above f c t k e s.cells in
    let space : IsSpace w (with_split f t) = record { above = above_along (types w) t (with_split f t) above s.above; cells = cells } in
    record {
      space = space;
      above = above;
      one_cell = at_place f t k e;
      room = changed_room f c t k e s.cells;
      some = subst (λ xs. xs ≢ []) (sym (schedules_in_space w (with_split f t) space)) (not_empty (all (map members_of (with_split f t))) (all_begin (with_split f t) cells));
    }

-- the law of the split
pub split : (w : World) (t : List Abs) (k : ℕ) → IsSpace w t → split_cell t ≡ Some k → IsSplit w t k
split w t k s e =
    let l = side w t k least_alone alone_changes s e in
    let r = side w t k least_dropped dropped_changes s e in
    let both : schedules_in w t ≡ schedules_in w (left t) ++ schedules_in w (right t) =
    schedules_in_space w t s ∙ all_split t k e s.cells
    ∙ sym (ap (λ xs. xs ++ schedules_in w (right t)) (schedules_in_space w (left t) l.space) ∙ ap (λ ys. all (map members_of (left t)) ++ ys) (schedules_in_space w (right t) r.space)) in
    record {
      left_side = l;
      right_side = r;
      schedules = both;
      kept = λ formulas.
          filter_swap (holds t) (is_kept w formulas) (schedules w)
          ∙ ap (filter (is_kept w formulas)) both
          ∙ filter-append (is_kept w formulas) (schedules_in w (left t)) (schedules_in w (right t))
          ∙ sym (ap (λ xs. xs ++ filter (holds (right t)) (kept_of w formulas)) (filter_swap (holds (left t)) (is_kept w formulas) (schedules w))
          ∙ ap (λ ys. filter (is_kept w formulas) (schedules_in w (left t)) ++ ys) (filter_swap (holds (right t)) (is_kept w formulas) (schedules w)));
    }

-- a single space holds one schedule
pub one_schedule : (w : World) (t : List Abs) → IsSpace w t → split_cell t ≡ None → schedules_in w t ≡ map least_in t ∷ []
one_schedule w t s e = schedules_in_space w t s ∙ all_single t e s.cells

-- ---- the space of all schedules

-- a type allows its values
type_members : (w : World) (kind : ValueType) → members_of (type_value w kind) ≡ values_of w kind
type_members w (Int lo hi) = refl
type_members w (Member i) = refl

types_members : (w : World) (cs : List Cell) → map members_of (map (λ (c : Cell). type_value w c.kind) cs) ≡ map (λ (c : Cell). values_of w c.kind) cs
types_members w [] = refl
types_members w (c ∷ cs) = ap (λ xs. xs ∷ map members_of (map (λ (c : Cell). type_value w c.kind) cs)) (type_members w c.kind) ∙ ap (λ ls. values_of w c.kind ∷ ls) (types_members w cs)

-- types none of which is empty are a space that holds all schedules
types_initial : (w : World) → list_all is_cell (types w) ≡ true → IsInitial w (types w)
types_initial w c =
    let s : IsSpace w (types w) = record { above = above_self (types w) c; cells = c } in
    record { space = s; types = refl; schedules = schedules_in_space w (types w) s ∙ ap all (types_members w (cells w)) }

-- the space of all schedules
pub initial_is : (w : World) (s : List Abs) → initial w ≡ Some s → IsInitial w s
initial_is w s e =
    ⊎_elim
    (λ (h : list_all is_cell (types w) ≡ true). let z = rw h at e in subst (IsInitial w) (some_is (types w) s z) (types_initial w h))
    (λ (h : list_all is_cell (types w) ≡ false). let z = rw h at e in cc)
    (cases_Bool (list_all is_cell (types w)))
  where
    some_is : (a b : List Abs) → Some a ≡ Some b → a ≡ b
    some_is a b e = cc
