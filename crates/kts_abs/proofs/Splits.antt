-- A space that is not single is split into two.
use Rattle.std.proofs.Common.{◌≡◌, refl, sym, ◌∙◌, ap, subst, ⊎_elim, Bool, true, false, ℕ, zero, suc, ◌+◌, ◌<◌, ℤ, pos, ◌+ℤ◌, ◌-ℤ◌, nat_abs, int_lt, List, [], ◌∷◌, ◌++◌, map, arith}
use Rattle.std.proofs.lemmas.Int.{ints}
use Rattle.std.proofs.lemmas.Bool.{and_parts, true≢false}
use Rattle.std.specs.List.{list_all, range_with_len}
use Rattle.kts_spec.specs.Schedules.{numbers}
use Rattle.kts_abs.specs.Abstraction.{Finer}
use Rattle.kts_abs.specs.Windows.{in_window}
use Rattle.kts_base.proofs.Orders.{int_le_yes, int_lt_yes, yes_int_le}
use Rattle.kts_abs.specs.Values.{Abs, Win, Mem, has, Refines, is_cell, rises_from, members_of, room_of}
use Rattle.kts_abs.specs.Spaces.{IsAbove, is_wide, least_in, least_alone, least_dropped}
use Rattle.kts_abs.proofs.WindowEnds.{finer_from}
use Rattle.kts_abs.proofs.Rising.{has_head, has_rest, has_cases}

-- ---- one cell

-- a window of one number
pub numbers_one : (n : ℤ) → numbers n n ≡ n ∷ []
numbers_one n =
    let e : nat_abs (n -ℤ n) ≡ 0 = omega (arith, ints) in
    let f : n +ℤ pos 0 ≡ n = omega (arith, ints) in
    ap (λ k. map (λ i. n +ℤ pos i) (range_with_len 0 (k + 1))) e ∙ ap (λ m. m ∷ []) f

-- the same numbers counted from another start
shifted : (a b : ℤ) (i j n : ℕ) → a +ℤ pos i ≡ b +ℤ pos j → map (λ k. a +ℤ pos k) (range_with_len i n) ≡ map (λ k. b +ℤ pos k) (range_with_len j n)
shifted a b i j zero e = refl
shifted a b i j (suc n) e =
    ap (λ z. z ∷ map (λ k. a +ℤ pos k) (range_with_len (i + 1) n)) e
    ∙ ap (λ zs. (b +ℤ pos j) ∷ zs) (shifted a b (i + 1) (j + 1) n (omega (arith, ints)))

-- the least number of a window, and the others
numbers_more : (lo hi : ℤ) → int_lt lo hi ≡ true → numbers lo hi ≡ lo ∷ numbers (lo +ℤ pos 1) hi
numbers_more lo hi h =
    let l = int_lt_yes lo hi h in
    let e : nat_abs (hi -ℤ lo) + 1 ≡ suc (nat_abs (hi -ℤ (lo +ℤ pos 1)) + 1) = omega (arith, ints) in
    let z : lo +ℤ pos 0 ≡ lo = omega (arith, ints) in
    ap (λ k. map (λ i. lo +ℤ pos i) (range_with_len 0 k)) e
    ∙ ap (λ m. m ∷ map (λ i. lo +ℤ pos i) (range_with_len (0 + 1) (nat_abs (hi -ℤ (lo +ℤ pos 1)) + 1))) z
    ∙ ap (λ ms. lo ∷ ms) (shifted lo (lo +ℤ pos 1) 1 0 (nat_abs (hi -ℤ (lo +ℤ pos 1)) + 1) (omega (arith, ints)))

-- the values of a cell with more than one are its least and the others
pub cell_split : (a : Abs) → is_wide a ≡ true → members_of a ≡ members_of (least_alone a) ++ members_of (least_dropped a)
cell_split (Win w) h = numbers_more w.0 w.1 h ∙ ap (λ ms. ms ++ numbers (w.0 +ℤ pos 1) w.1) (sym (numbers_one w.0))
cell_split (Mem []) h = absurd (true≢false (sym h))
cell_split (Mem (m ∷ [])) h = absurd (true≢false (sym h))
cell_split (Mem (m ∷ (n ∷ ms))) h = refl

-- a cell with one value
pub cell_single : (a : Abs) → is_wide a ≡ false → is_cell a ≡ true → members_of a ≡ least_in a ∷ []
cell_single (Win w) h c =
    let l = int_le_yes w.0 w.1 c in
    let e : w.1 ≡ w.0 = grind (arith, ints) in
    ap (numbers w.0) e ∙ numbers_one w.0
cell_single (Mem []) h c = absurd (true≢false (sym c))
cell_single (Mem (m ∷ [])) h c = refl
cell_single (Mem (m ∷ (n ∷ ms))) h c = absurd (true≢false h)

-- a set without its least member is rising
rest_rises : (m n : ℤ) (ms : List ℤ) → rises_from m (n ∷ ms) ≡ true → rises_from n ms ≡ true
rest_rises m n ms r = (and_parts (int_lt m n) (rises_from n ms) r).1

-- what a change makes of a cell with more than one value
pub record Changes (f : Abs → Abs) : Type 0 where
  pub cell : (a : Abs) → is_wide a ≡ true → is_cell a ≡ true → is_cell (f a) ≡ true
  pub within : (a : Abs) → is_wide a ≡ true → is_cell a ≡ true → Refines (f a) a
  pub room : (a : Abs) → is_wide a ≡ true → is_cell a ≡ true → room_of (f a) < room_of a

-- the least value alone is a cell within the cell, with less room
alone_cell : (a : Abs) → is_wide a ≡ true → is_cell a ≡ true → is_cell (least_alone a) ≡ true
alone_cell (Win w) h c = yes_int_le w.0 w.0 (omega (arith, ints))
alone_cell (Mem []) h c = c
alone_cell (Mem (m ∷ ms)) h c = refl

alone_within : (a : Abs) → is_wide a ≡ true → is_cell a ≡ true → Refines (least_alone a) a
alone_within (Win w) h c = let l = int_le_yes w.0 w.1 c in finer_from (w.0, w.0) w (record { solid = omega (arith, ints); low = omega (arith, ints); high = l })
alone_within (Mem []) h c = absurd (true≢false (sym h))
alone_within (Mem (m ∷ ms)) h c = record {
  witness = m;
  allowed = has_head m [];
  within = λ n k. ⊎_elim (λ e. subst (λ z. has (m ∷ ms) z ≡ true) (sym e) (has_head m ms)) (λ z. absurd (true≢false (sym z))) (has_cases m [] n k);
}

alone_room : (a : Abs) → is_wide a ≡ true → is_cell a ≡ true → room_of (least_alone a) < room_of a
alone_room (Win w) h c = let l = int_lt_yes w.0 w.1 h in omega (arith, ints)
alone_room (Mem []) h c = absurd (true≢false (sym h))
alone_room (Mem (m ∷ [])) h c = absurd (true≢false (sym h))
alone_room (Mem (m ∷ (n ∷ ms))) h c = omega arith

pub alone_changes : Changes least_alone
alone_changes = record { cell = alone_cell; within = alone_within; room = alone_room }

-- so are the others
dropped_cell : (a : Abs) → is_wide a ≡ true → is_cell a ≡ true → is_cell (least_dropped a) ≡ true
dropped_cell (Win w) h c = let l = int_lt_yes w.0 w.1 h in yes_int_le (w.0 +ℤ pos 1) w.1 (omega (arith, ints))
dropped_cell (Mem []) h c = c
dropped_cell (Mem (m ∷ [])) h c = absurd (true≢false (sym h))
dropped_cell (Mem (m ∷ (n ∷ ms))) h c = rest_rises m n ms c

dropped_within : (a : Abs) → is_wide a ≡ true → is_cell a ≡ true → Refines (least_dropped a) a
dropped_within (Win w) h c = let l = int_lt_yes w.0 w.1 h in finer_from (w.0 +ℤ pos 1, w.1) w (record { solid = omega (arith, ints); low = omega (arith, ints); high = omega (arith, ints) })
dropped_within (Mem []) h c = absurd (true≢false (sym h))
dropped_within (Mem (m ∷ [])) h c = absurd (true≢false (sym h))
dropped_within (Mem (m ∷ (n ∷ ms))) h c = record { witness = n; allowed = has_head n ms; within = λ x k. has_rest m (n ∷ ms) x k }

dropped_room : (a : Abs) → is_wide a ≡ true → is_cell a ≡ true → room_of (least_dropped a) < room_of a
dropped_room (Win w) h c = let l = int_lt_yes w.0 w.1 h in omega (arith, ints)
dropped_room (Mem []) h c = absurd (true≢false (sym h))
dropped_room (Mem (m ∷ [])) h c = absurd (true≢false (sym h))
dropped_room (Mem (m ∷ (n ∷ ms))) h c = omega arith

pub dropped_changes : Changes least_dropped
dropped_changes = record { cell = dropped_cell; within = dropped_within; room = dropped_room }

-- ---- a space

-- what is finer than something finer is finer
finer_along : {X Y : Type 0} (p : X → Y → Bool) (a b c : X) → Finer p a b → Finer p b c → Finer p a c
finer_along p a b c f g = record { witness = f.witness; allowed = f.allowed; within = λ x h. g.within x (f.within x h) }

-- what lies within what lies within
within_along : (a b c : Abs) → Refines a b → Refines b c → Refines a c
within_along (Win u) (Win v) (Win w) h k = finer_along in_window u v w h k
within_along (Win u) (Win v) (Mem w) h k = absurd k
within_along (Win u) (Mem v) c h k = absurd h
within_along (Mem u) (Win v) c h k = absurd h
within_along (Mem u) (Mem v) (Win w) h k = absurd k
within_along (Mem u) (Mem v) (Mem w) h k = finer_along has u v w h k

-- a space above one above
pub above_along : (r s t : List Abs) → IsAbove s t → IsAbove r s → IsAbove r t
above_along [] [] [] h k = tt
above_along r [] (c ∷ t) h k = absurd h
above_along r (b ∷ s) [] h k = absurd h
above_along [] (b ∷ s) (c ∷ t) h k = absurd k
above_along (a ∷ r) [] [] h k = absurd k
above_along (a ∷ r) (b ∷ s) (c ∷ t) h k = (within_along c b a h.0 k.0, above_along r s t h.1 k.1)

-- a cell lies within itself
pub within_self : (a : Abs) → is_cell a ≡ true → Refines a a
within_self (Win w) c = let l = int_le_yes w.0 w.1 c in finer_from w w (record { solid = l; low = omega (arith, ints); high = omega (arith, ints) })
within_self (Mem []) c = absurd (true≢false (sym c))
within_self (Mem (m ∷ ms)) c = record { witness = m; allowed = has_head m ms; within = λ n h. h }

-- a space is above itself
pub above_self : (t : List Abs) → list_all is_cell t ≡ true → IsAbove t t
above_self [] c = tt
above_self (a ∷ t) c = let p = and_parts (is_cell a) (list_all is_cell t) c in (within_self a p.0, above_self t p.1)
