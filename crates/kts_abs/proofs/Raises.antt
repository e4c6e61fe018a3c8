-- What a demand tests, and what a cell is raised to.
use Rattle.std.proofs.Common.{◌≡◌, refl, sym, ap, ◌∙◌, subst, ◌<◌, ℤ, pos, ◌≤ℤ◌, ◌+ℤ◌, ◌-ℤ◌, int_le, int_lt, List, [], ◌∷◌, length, filter, Bool, true, false, Option, Some, None, cond, arith}
use Rattle.std.specs.Prelude.{◌↔◌}
use Rattle.std.specs.Int.{int_min, int_max}
use Rattle.std.specs.List.{list_all}
use Rattle.std.proofs.lemmas.Bool.{and_parts, and_from, true≢false}
use Rattle.std.proofs.lemmas.Int.{ints, clamps}
use Rattle.kts_base.proofs.Orders.{int_le_yes, yes_int_le, yes_int_lt}
use Rattle.kts_abs.specs.declared.demand.Op.{Op}
use Rattle.kts_abs.specs.declared.demand.Op.TheVariants.{AtLeast, AtMost, Within, Without}
use Rattle.kts_abs.specs.Demands.{Demand, only_member, is_left, some_window, some_set, meets, raised, Meets, Suits, IsRaised, NoneMeets, IsDemand, DemandsAreMet, MetDemandsStay, RaisesLowerRoom}
use Rattle.kts_abs.specs.Values.{Abs, Win, Mem, has, Refines, is_cell, rises_from, room_of, window_of, members_of}
use Rattle.kts_abs.specs.Windows.{Window}
use Rattle.kts_abs.specs.WindowLaws.{eq_yes}
use Rattle.kts_abs.proofs.Accesses.{window_finer, members_finer}
use Rattle.kts_abs.proofs.MemberTests.{all_from, all_to, filter_kept, filter_has, filter_in, filter_less, only_is, only_found, left_not, not_left}
use Rattle.kts_abs.proofs.Rising.{has_head, filter_rises}
use Rattle.kts_abs.proofs.WindowEnds.{Inside, inside_from, finer_from, pair_is}

-- ---- the tests

within_means : (b : Abs) (us : List ℤ) → (list_all (has (members_of b)) us ≡ true) ↔ Meets (Within, b) (Mem us)
within_means b us = (λ t m h. all_to (has (members_of b)) us t m h, λ f. all_from (has (members_of b)) us f)

without_to : (b : Abs) (us : List ℤ) → list_all (is_left (only_member (members_of b))) us ≡ true → Meets (Without, b) (Mem us)
without_to b us t m only h =
    left_not m m (subst (λ o. is_left o m ≡ true) (only_found (members_of b) m only) (all_to (is_left (only_member (members_of b))) us t m h)) refl

without_from : (b : Abs) (us : List ℤ) (o : Option ℤ) → only_member (members_of b) ≡ o → Meets (Without, b) (Mem us) → list_all (is_left o) us ≡ true
without_from b us None e f = all_from (is_left None) us (λ m h. refl)
without_from b us (Some n) e f =
    all_from (is_left (Some n)) us (λ m h. not_left _ (λ t. f n (only_is (members_of b) n e) (subst (λ z. has us z ≡ true) (eq_yes m n t) h)))

without_means : (b : Abs) (us : List ℤ) → (list_all (is_left (only_member (members_of b))) us ≡ true) ↔ Meets (Without, b) (Mem us)
without_means b us = (without_to b us, without_from b us (only_member (members_of b)) refl)

-- the test is what the demand means, of a cell of either kind
means : (op : Op) (b a : Abs) → (meets (op, b) a ≡ true) ↔ Meets (op, b) a
means AtLeast b a = (int_le_yes (window_of b).0 (window_of a).0, yes_int_le (window_of b).0 (window_of a).0)
means AtMost b a = (int_le_yes (window_of a).1 (window_of b).1, yes_int_le (window_of a).1 (window_of b).1)
means Within b a = within_means b (members_of a)
means Without b a = without_means b (members_of a)

-- ---- demands on sets

some_abs : (a b : Abs) → Some a ≡ Some b → a ≡ b
some_abs a b e = cc

none_abs : (b : Abs) → None ≡ Some b → ⊥
none_abs b e = cc

module _ (d : Demand) (p : ℤ → Bool) (test : (us : List ℤ) → (list_all p us ≡ true) ↔ Meets d (Mem us)) (ms : List ℤ) where
  part_raised : (xs : List ℤ) (b : Abs) → filter p ms ≡ xs → some_set xs ≡ Some b → IsRaised d (Mem ms) b
  part_raised [] b e f = absurd (none_abs b f)
  part_raised (x ∷ xs) b e f =
      let is : Mem (x ∷ xs) ≡ b = some_abs (Mem (x ∷ xs)) b f in
      subst (IsRaised d (Mem ms)) is (record {
        part = record { witness = x; allowed = has_head x xs; within = λ m h. (filter_in p ms m (subst (λ zs. has zs m ≡ true) (sym e) h)).0 };
        met = (test (x ∷ xs)).0 (all_from p (x ∷ xs) (λ m h. (filter_in p ms m (subst (λ zs. has zs m ≡ true) (sym e) h)).1));
        greatest = greatest;
      })
    where
      greatest : (u : Abs) → Refines u (Mem ms) → Meets d u → Refines u (Mem (x ∷ xs))
      greatest (Win v) h k = absurd h
      greatest (Mem us) h k = record {
        witness = h.witness;
        allowed = h.allowed;
        within = λ m r. subst (λ zs. has zs m ≡ true) e (filter_has p ms m (h.within m r) (all_to p us ((test us).1 k) m r));
      }

  none_raised : (xs : List ℤ) → filter p ms ≡ xs → some_set xs ≡ None → NoneMeets d (Mem ms)
  none_raised (x ∷ xs) e f = cc
  none_raised [] e f = none
    where
      none : (u : Abs) → Refines u (Mem ms) → Meets d u → ⊥
      none (Win v) h k = h
      none (Mem us) h k =
          true≢false (sym (subst (λ zs. has zs h.witness ≡ true) e (filter_has p ms h.witness (h.within h.witness h.allowed) (all_to p us ((test us).1 k) h.witness h.allowed))))

  set_demand : (meets d (Mem ms) ≡ true) ↔ Meets d (Mem ms) → raised d (Mem ms) ≡ some_set (filter p ms) → IsDemand d (Mem ms)
  set_demand t f = record {
    test = t;
    some = λ b g. part_raised (filter p ms) b refl (sym f ∙ g);
    none = λ g. none_raised (filter p ms) refl (sym f ∙ g);
  }

-- ---- demands on windows

module _ (d : Demand) (cut : Window → Window) (v : Window) where
  -- a window is cut to its greatest part
  record Cuts : Type 0 where
    part : (cut v).0 ≤ℤ (cut v).1 → Inside (cut v) v
    met : Meets d (Win (cut v))
    greatest : (u : Window) → Inside u v → Meets d (Win u) → Inside u (cut v)

  some_cut : Cuts → (b : Abs) (t : Bool) → int_le (cut v).0 (cut v).1 ≡ t → cond t (Some (Win (cut v))) None ≡ Some b → IsRaised d (Win v) b
  some_cut c b false e f = absurd (none_abs b f)
  some_cut c b true e f =
      subst (IsRaised d (Win v)) (some_abs (Win (cut v)) b f) (record {
        part = finer_from (cut v) v (c.part (int_le_yes (cut v).0 (cut v).1 e));
        met = c.met;
        greatest = greatest;
      })
    where
      greatest : (u : Abs) → Refines u (Win v) → Meets d u → Refines u (Win (cut v))
      greatest (Mem us) h k = absurd h
      greatest (Win u) h k = finer_from u (cut v) (c.greatest u (inside_from u v h) k)

  none_cut : Cuts → (t : Bool) → int_le (cut v).0 (cut v).1 ≡ t → cond t (Some (Win (cut v))) None ≡ None → NoneMeets d (Win v)
  none_cut c true e f = cc
  none_cut c false e f = none
    where
      none : (u : Abs) → Refines u (Win v) → Meets d u → ⊥
      none (Mem us) h k = h
      none (Win u) h k =
          let i = c.greatest u (inside_from u v h) k in
          let s = i.solid in let l = i.low in let g = i.high in
          true≢false (sym (yes_int_le (cut v).0 (cut v).1 (omega (arith, ints))) ∙ e)

  window_demand : Cuts → ((meets d (Win v) ≡ true) ↔ Meets d (Win v)) → raised d (Win v) ≡ some_window (cut v) → IsDemand d (Win v)
  window_demand c test f = record {
    test = test;
    some = λ b g. some_cut c b (int_le (cut v).0 (cut v).1) refl (sym f ∙ g);
    none = λ g. none_cut c (int_le (cut v).0 (cut v).1) refl (sym f ∙ g);
  }

abbrev low_cut : Abs → Window → Window
low_cut b v = (int_max v.0 (window_of b).0, v.1)

abbrev high_cut : Abs → Window → Window
high_cut b v = (v.0, int_min v.1 (window_of b).1)

least_cuts : (b : Abs) (v : Window) → Cuts (AtLeast, b) (low_cut b) v
least_cuts b v =
    let lo = (window_of b).0 in
    let met : lo ≤ℤ int_max v.0 lo = omega (arith, ints, clamps) in
    record {
      part = λ s. record { solid = s; low = omega (arith, ints, clamps); high = omega (arith, ints) };
      met = met;
      greatest = λ u i k. record { solid = i.solid; low = (let l = i.low in omega (arith, ints, clamps)); high = i.high };
    }

most_cuts : (b : Abs) (v : Window) → Cuts (AtMost, b) (high_cut b) v
most_cuts b v =
    let hi = (window_of b).1 in
    let met : int_min v.1 hi ≤ℤ hi = omega (arith, ints, clamps) in
    record {
      part = λ s. record { solid = s; low = omega (arith, ints); high = omega (arith, ints, clamps) };
      met = met;
      greatest = λ u i k. record { solid = i.solid; low = i.low; high = (let l = i.high in omega (arith, ints, clamps)) };
    }

pub demands_are_met : DemandsAreMet
demands_are_met AtLeast b (Win v) s = window_demand (AtLeast, b) (low_cut b) v (least_cuts b v) (means AtLeast b (Win v)) refl
demands_are_met AtMost b (Win v) s = window_demand (AtMost, b) (high_cut b) v (most_cuts b v) (means AtMost b (Win v)) refl
demands_are_met Within b (Mem ms) s = set_demand (Within, b) (has (members_of b)) (within_means b) ms (means Within b (Mem ms)) refl
demands_are_met Without b (Mem ms) s = set_demand (Without, b) (is_left (only_member (members_of b))) (without_means b) ms (means Without b (Mem ms)) refl
demands_are_met AtLeast b (Mem ms) s = absurd s
demands_are_met AtMost b (Mem ms) s = absurd s
demands_are_met Within b (Win v) s = absurd s
demands_are_met Without b (Win v) s = absurd s

-- ---- demands that stay met

met_narrower : (op : Op) (b a u : Abs) → Refines u a → Meets (op, b) a → Meets (op, b) u
met_narrower AtLeast b a u h k = let i = inside_from (window_of u) (window_of a) (window_finer u a h) in let l = i.low in omega (arith, ints)
met_narrower AtMost b a u h k = let i = inside_from (window_of u) (window_of a) (window_finer u a h) in let l = i.high in omega (arith, ints)
met_narrower Within b a u h k = λ m r. k m ((members_finer u a h).within m r)
met_narrower Without b a u h k = λ m only r. k m only ((members_finer u a h).within m r)

met_looser : (op : Op) (b c a : Abs) → Refines b c → Meets (op, b) a → Meets (op, c) a
met_looser AtLeast b c a h k = let i = inside_from (window_of b) (window_of c) (window_finer b c h) in let l = i.low in omega (arith, ints)
met_looser AtMost b c a h k = let i = inside_from (window_of b) (window_of c) (window_finer b c h) in let l = i.high in omega (arith, ints)
met_looser Within b c a h k = λ m r. (members_finer b c h).within m (k m r)
met_looser Without b c a h k = λ m only r.
    let f = members_finer b c h in
    let e = only.alone f.witness (f.within f.witness f.allowed) in
    k m (record { held = subst (λ z. has (members_of b) z ≡ true) e f.allowed; alone = λ n l. only.alone n (f.within n l) }) r

pub met_demands_stay : MetDemandsStay
met_demands_stay = record {
  narrower = λ d a u h t. (means d.0 d.1 u).1 (met_narrower d.0 d.1 a u h ((means d.0 d.1 a).0 t));
  looser = λ op b c a h t. (means op c a).1 (met_looser op b c a h ((means op b a).0 t));
}

-- ---- cells with less room

kept_set : (ms : List ℤ) → is_cell (Mem ms) ≡ true → some_set ms ≡ Some (Mem ms)
kept_set [] h = absurd (true≢false (sym h))
kept_set (m ∷ ms) h = refl

kept_window : (a v : Window) → int_le v.0 v.1 ≡ true → a ≡ v → some_window a ≡ Some (Win v)
kept_window a v h e = ap some_window e ∙ ap (λ b. cond b (Some (Win v)) None) h

raised_same : (op : Op) (b a : Abs) → Suits op a → is_cell a ≡ true → meets (op, b) a ≡ true → raised (op, b) a ≡ Some a
raised_same AtLeast b (Win v) s h t =
    let l = int_le_yes (window_of b).0 v.0 t in
    let e : int_max v.0 (window_of b).0 ≡ v.0 = omega (arith, ints, clamps) in
    kept_window (low_cut b v) v h (pair_is (low_cut b v) v e refl)
raised_same AtMost b (Win v) s h t =
    let l = int_le_yes v.1 (window_of b).1 t in
    let e : int_min v.1 (window_of b).1 ≡ v.1 = omega (arith, ints, clamps) in
    kept_window (high_cut b v) v h (pair_is (high_cut b v) v refl e)
raised_same Within b (Mem ms) s h t = ap some_set (filter_kept (has (members_of b)) ms t) ∙ kept_set ms h
raised_same Without b (Mem ms) s h t = ap some_set (filter_kept (is_left (only_member (members_of b))) ms t) ∙ kept_set ms h
raised_same AtLeast b (Mem ms) s h t = absurd s
raised_same AtMost b (Mem ms) s h t = absurd s
raised_same Within b (Win v) s h t = absurd s
raised_same Without b (Win v) s h t = absurd s

-- a window or set that is not empty
window_cell : (v : Window) (c : Abs) (t : Bool) → int_le v.0 v.1 ≡ t → cond t (Some (Win v)) None ≡ Some c → (int_le v.0 v.1 ≡ true) × (Win v ≡ c)
window_cell v c true e f = (e, some_abs (Win v) c f)
window_cell v c false e f = absurd (none_abs c f)

set_cell : (ms : List ℤ) (c : Abs) → some_set ms ≡ Some c → Mem ms ≡ c
set_cell [] c f = absurd (none_abs c f)
set_cell (m ∷ ms) c f = some_abs (Mem (m ∷ ms)) c f

-- a set that rises and is not empty is a cell
rising_cell : (n : ℤ) (ms : List ℤ) (c : Abs) → rises_from n ms ≡ true → some_set ms ≡ Some c → is_cell c ≡ true
rising_cell n [] c r f = absurd (none_abs c f)
rising_cell n (m ∷ ms) c r f = subst (λ z. is_cell z ≡ true) (some_abs (Mem (m ∷ ms)) c f) (and_parts (int_lt n m) (rises_from m ms) r).1

-- what passes a test of a rising set rises
filter_cell : (p : ℤ → Bool) (ms : List ℤ) (c : Abs) → is_cell (Mem ms) ≡ true → some_set (filter p ms) ≡ Some c → is_cell c ≡ true
filter_cell p [] c h f = absurd (true≢false (sym h))
filter_cell p (m ∷ ms) c h f =
    let n = m -ℤ pos 1 in
    rising_cell n (filter p (m ∷ ms)) c (filter_rises p n (m ∷ ms) (and_from (int_lt n m) (rises_from m ms) (yes_int_lt n m (omega (arith, ints))) h)) f

raised_cell : (op : Op) (b a c : Abs) → Suits op a → is_cell a ≡ true → raised (op, b) a ≡ Some c → is_cell c ≡ true
raised_cell AtLeast b (Win v) c s h e = let r = window_cell (low_cut b v) c (int_le (low_cut b v).0 (low_cut b v).1) refl e in subst (λ z. is_cell z ≡ true) r.1 r.0
raised_cell AtMost b (Win v) c s h e = let r = window_cell (high_cut b v) c (int_le (high_cut b v).0 (high_cut b v).1) refl e in subst (λ z. is_cell z ≡ true) r.1 r.0
raised_cell Within b (Mem ms) c s h e = filter_cell (has (members_of b)) ms c h e
raised_cell Without b (Mem ms) c s h e = filter_cell (is_left (only_member (members_of b))) ms c h e
raised_cell AtLeast b (Mem ms) c s h e = absurd s
raised_cell AtMost b (Mem ms) c s h e = absurd s
raised_cell Within b (Win v) c s h e = absurd s
raised_cell Without b (Win v) c s h e = absurd s

-- fewer members leave less room
set_room : (p : ℤ → Bool) (ms : List ℤ) (c : Abs) → list_all p ms ≡ false → some_set (filter p ms) ≡ Some c → room_of c < room_of (Mem ms)
set_room p ms c t f = by (filter p ms) refl f
  where
    by : (xs : List ℤ) → filter p ms ≡ xs → some_set xs ≡ Some c → room_of c < room_of (Mem ms)
    by [] e f = absurd (none_abs c f)
    by (x ∷ xs) e f =
        let less : length (x ∷ xs) < length ms = subst (λ zs. length zs < length ms) e (filter_less p ms t) in
        subst (λ z. room_of z < room_of (Mem ms)) (some_abs (Mem (x ∷ xs)) c f) (omega arith)

not_le : (m n : ℤ) → int_le m n ≡ false → (n +ℤ pos 1) ≤ℤ m
not_le m n e = grind (arith, ints)

raised_less : (op : Op) (b a c : Abs) → Suits op a → is_cell a ≡ true → meets (op, b) a ≡ false → raised (op, b) a ≡ Some c → room_of c < room_of a
raised_less AtLeast b (Win v) c s h t e =
    let r = window_cell (low_cut b v) c (int_le (low_cut b v).0 (low_cut b v).1) refl e in
    let l = int_le_yes (low_cut b v).0 (low_cut b v).1 r.0 in
    let k = not_le (window_of b).0 v.0 t in
    subst (λ z. room_of z < room_of (Win v)) r.1 (omega (arith, ints, clamps))
raised_less AtMost b (Win v) c s h t e =
    let r = window_cell (high_cut b v) c (int_le (high_cut b v).0 (high_cut b v).1) refl e in
    let l = int_le_yes (high_cut b v).0 (high_cut b v).1 r.0 in
    let k = not_le v.1 (window_of b).1 t in
    subst (λ z. room_of z < room_of (Win v)) r.1 (omega (arith, ints, clamps))
raised_less Within b (Mem ms) c s h t e = set_room (has (members_of b)) ms c t e
raised_less Without b (Mem ms) c s h t e = set_room (is_left (only_member (members_of b))) ms c t e
raised_less AtLeast b (Mem ms) c s h t e = absurd s
raised_less AtMost b (Mem ms) c s h t e = absurd s
raised_less Within b (Win v) c s h t e = absurd s
raised_less Without b (Win v) c s h t e = absurd s

pub raises_lower_room : RaisesLowerRoom
raises_lower_room = record { same = raised_same; cell = raised_cell; less = raised_less }
