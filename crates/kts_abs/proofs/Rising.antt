-- Rising lists of numbers are determined by their members.
use Rattle.std.proofs.Common.{◌≡◌, refl, sym, ◌∙◌, ap, subst, ◌⊎◌, inl, inr, ⊎_elim, Bool, true, false, ◌&&◌, ◌||◌, ℕ, zero, suc, ◌+◌, ℤ, pos, ◌+ℤ◌, ◌-ℤ◌, ◌≤ℤ◌, ◌<ℤ◌, int_lt, int_le, nat_abs, List, [], ◌∷◌, map, filter, arith}
use Rattle.std.proofs.lemmas.Int.{ints}
use Rattle.std.proofs.lemmas.Bool.{and_parts, and_from, or_cases, or_left, or_right, cases_Bool, false_from_ne_true, true≢false}
use Rattle.std.specs.List.{range_with_len}
use Rattle.std.specs.Ordering.{int_eq}
use Rattle.std.proofs.Math.Bool.{and-false}
use Rattle.kts_spec.specs.Schedules.{numbers}
use Rattle.kts_abs.specs.Values.{has, rises_from}
use Rattle.kts_abs.specs.Windows.{in_window}
use Rattle.kts_base.proofs.Orders.{int_le_yes, int_lt_yes, yes_int_le, yes_int_lt}
use Rattle.kts_abs.specs.WindowLaws.{eq_yes, yes_eq, lies, lying}

-- the first, the rest, and where a member is
pub has_head : (m : ℤ) (ms : List ℤ) → has (m ∷ ms) m ≡ true
has_head m ms = or_left (int_eq m m) (has ms m) (yes_eq m m refl)

pub has_rest : (m : ℤ) (ms : List ℤ) (n : ℤ) → has ms n ≡ true → has (m ∷ ms) n ≡ true
has_rest m ms n h = or_right (int_eq n m) (has ms n) h

pub has_cases : (m : ℤ) (ms : List ℤ) (n : ℤ) → has (m ∷ ms) n ≡ true → (n ≡ m) ⊎ (has ms n ≡ true)
has_cases m ms n h = ⊎_elim (λ e. inl (eq_yes n m e)) (λ r. inr r) (or_cases (int_eq n m) (has ms n) h)

-- the members of a list that rises from n are above n
pub member_above : (n : ℤ) (ms : List ℤ) (m : ℤ) → rises_from n ms ≡ true → has ms m ≡ true → n <ℤ m
member_above n [] m r h = absurd (true≢false (sym h))
member_above n (x ∷ ms) m r h =
    let p = and_parts (int_lt n x) (rises_from x ms) r in
    let l = int_lt_yes n x p.0 in
    ⊎_elim (λ (e : m ≡ x). omega (arith, ints)) (λ k. let a = member_above x ms m p.1 k in omega (arith, ints)) (has_cases x ms m h)

-- it rises from any smaller number
pub rises_lower : (m n : ℤ) (ms : List ℤ) → m ≤ℤ n → rises_from n ms ≡ true → rises_from m ms ≡ true
rises_lower m n [] l r = refl
rises_lower m n (x ∷ ms) l r =
    let p = and_parts (int_lt n x) (rises_from x ms) r in
    let k = int_lt_yes n x p.0 in
    and_from (int_lt m x) (rises_from x ms) (yes_int_lt m x (omega (arith, ints))) p.1

-- no smaller number is a member
not_in : (n : ℤ) (ms : List ℤ) (m : ℤ) → rises_from n ms ≡ true → m ≤ℤ n → has ms m ≡ true → ⊥
not_in n ms m r l h = let a = member_above n ms m r h in omega (arith, ints)

-- two lists that rise from a number and have the same members are one
pub rising_same : (n : ℤ) (ms ns : List ℤ) → rises_from n ms ≡ true → rises_from n ns ≡ true → ((m : ℤ) → has ms m ≡ has ns m) → ms ≡ ns
rising_same n [] [] r s h = refl
rising_same n [] (y ∷ ns) r s h = absurd (true≢false (sym (h y ∙ has_head y ns)))
rising_same n (x ∷ ms) [] r s h = absurd (true≢false (sym (has_head x ms) ∙ h x))
rising_same n (x ∷ ms) (y ∷ ns) r s h =
    let p = (and_parts (int_lt n x) (rises_from x ms) r).1 in
    let q = (and_parts (int_lt n y) (rises_from y ns) s).1 in
    let xs = has_cases y ns x (sym (h x) ∙ has_head x ms) in
    let ys = has_cases x ms y (h y ∙ has_head y ns) in
    let e : x ≡ y = same_heads x y ms ns p q xs ys in
    ap (λ z. z ∷ ms) e ∙ ap (λ zs. y ∷ zs) (rising_same y ms ns (subst (λ z. rises_from z ms ≡ true) e p) q (same_rest x y ms ns e p q h))
  where
    same_heads : (x y : ℤ) (ms ns : List ℤ) → rises_from x ms ≡ true → rises_from y ns ≡ true → (x ≡ y) ⊎ (has ns x ≡ true) → (y ≡ x) ⊎ (has ms y ≡ true) → x ≡ y
    same_heads x y ms ns p q (inl e) ys = e
    same_heads x y ms ns p q (inr k) (inl e) = sym e
    same_heads x y ms ns p q (inr k) (inr l) = let a = member_above y ns x q k in let b = member_above x ms y p l in absurd (omega (arith, ints))

    same_rest : (x y : ℤ) (ms ns : List ℤ) → x ≡ y → rises_from x ms ≡ true → rises_from y ns ≡ true → ((m : ℤ) → has (x ∷ ms) m ≡ has (y ∷ ns) m) → (m : ℤ) → has ms m ≡ has ns m
    same_rest x y ms ns e p q h m = ⊎_elim
        (λ (t : int_eq m x ≡ true).
        let a : m ≡ x = eq_yes m x t in
        let b : has ms m ≡ false = false_from_ne_true (has ms m) (λ k. not_in x ms m p (omega (arith, ints)) k) in
        let c : has ns m ≡ false = false_from_ne_true (has ns m) (λ k. not_in y ns m q (omega (arith, ints)) k) in
        b ∙ sym c)
        (λ (t : int_eq m x ≡ false).
        let g : (int_eq m x || has ms m) ≡ (int_eq m y || has ns m) = h m in
        let u : int_eq m y ≡ false = sym (ap (int_eq m) e) ∙ t in
        rw (t, u) at g)
        (cases_Bool (int_eq m x))

-- what is kept of a rising list rises
pub filter_rises : (p : ℤ → Bool) (n : ℤ) (ms : List ℤ) → rises_from n ms ≡ true → rises_from n (filter p ms) ≡ true
filter_rises p n [] r = refl
filter_rises p n (m ∷ ms) r =
    let q = and_parts (int_lt n m) (rises_from m ms) r in
    let l = int_lt_yes n m q.0 in
    ⊎_elim
    (λ (e : p m ≡ true). rw e (and_from (int_lt n m) (rises_from m (filter p ms)) q.0 (filter_rises p m ms q.1)))
    (λ (e : p m ≡ false). rw e (filter_rises p n ms (rises_lower n m ms (omega (arith, ints)) q.1)))
    (cases_Bool (p m))

-- what is kept was in the list and passes
pub has_filter : (p : ℤ → Bool) (n : ℤ) (ms : List ℤ) → has (filter p ms) n ≡ (p n && has ms n)
has_filter p n [] = sym (and-false (p n))
has_filter p n (m ∷ ms) =
    ⊎_elim
    (λ (s : int_eq n m ≡ true).
    let e : p n ≡ p m = ap p (eq_yes n m s) in
    ⊎_elim (λ (y : p m ≡ true). rw (s, e, y, s) refl) (λ (d : p m ≡ false). rw (s, e, d, has_filter p n ms, e, d) refl) (cases_Bool (p m)))
    (λ (s : int_eq n m ≡ false).
    ⊎_elim (λ (y : p m ≡ true). rw (s, y, s) (has_filter p n ms)) (λ (d : p m ≡ false). rw (s, d) (has_filter p n ms)) (cases_Bool (p m)))
    (cases_Bool (int_eq n m))

-- numbers counted up rise
run_rises : (a : ℤ) (i n : ℕ) (m : ℤ) → m <ℤ (a +ℤ pos i) → rises_from m (map (λ k. a +ℤ pos k) (range_with_len i n)) ≡ true
run_rises a i zero m l = refl
run_rises a i (suc n) m l =
    and_from (int_lt m (a +ℤ pos i)) (rises_from (a +ℤ pos i) (map (λ k. a +ℤ pos k) (range_with_len (i + 1) n))) (yes_int_lt m (a +ℤ pos i) l)
    (run_rises a (i + 1) n (a +ℤ pos i) (omega (arith, ints)))

-- two tests that imply each other
pub same_Bool : (b c : Bool) → (b ≡ true → c ≡ true) → (c ≡ true → b ≡ true) → b ≡ c
same_Bool true c f g = sym (f refl)
same_Bool false true f g = g refl
same_Bool false false f g = refl

-- one more number at the front
one_more : (p q r m : ℤ) → q ≡ p +ℤ pos 1 → p <ℤ r → (int_eq m p || (int_le q m && int_lt m r)) ≡ (int_le p m && int_lt m r)
one_more p q r m e l = same_Bool (int_eq m p || (int_le q m && int_lt m r)) (int_le p m && int_lt m r)
    (λ h. ⊎_elim
    (λ (t : int_eq m p ≡ true). let k = eq_yes m p t in and_from (int_le p m) (int_lt m r) (yes_int_le p m (omega (arith, ints))) (yes_int_lt m r (omega (arith, ints))))
    (λ t. let k = and_parts (int_le q m) (int_lt m r) t in let low = int_le_yes q m k.0 in and_from (int_le p m) (int_lt m r) (yes_int_le p m (omega (arith, ints))) k.1)
    (or_cases (int_eq m p) (int_le q m && int_lt m r) h))
    (λ h. let k = and_parts (int_le p m) (int_lt m r) h in let low = int_le_yes p m k.0 in
    ⊎_elim
    (λ (t : int_eq m p ≡ true). or_left (int_eq m p) (int_le q m && int_lt m r) t)
    (λ (t : int_eq m p ≡ false). or_right (int_eq m p) (int_le q m && int_lt m r) (and_from (int_le q m) (int_lt m r) (yes_int_le q m (above p m q low t e)) k.1))
    (cases_Bool (int_eq m p)))
  where
    above : (p m q : ℤ) → p ≤ℤ m → int_eq m p ≡ false → q ≡ p +ℤ pos 1 → q ≤ℤ m
    above p m q l t e = grind (arith, ints)

-- it has what is not below a + i and below a + i + n
run_has : (a : ℤ) (i n : ℕ) (m : ℤ) → has (map (λ k. a +ℤ pos k) (range_with_len i n)) m ≡ (int_le (a +ℤ pos i) m && int_lt m (a +ℤ pos (i + n)))
run_has a i zero m = grind (arith, ints)
run_has a i (suc n) m =
    ap (λ b. int_eq m (a +ℤ pos i) || b) (run_has a (i + 1) n m)
    ∙ ap (λ k. int_eq m (a +ℤ pos i) || (int_le (a +ℤ pos (i + 1)) m && int_lt m (a +ℤ pos k))) (next i n)
    ∙ one_more (a +ℤ pos i) (a +ℤ pos (i + 1)) (a +ℤ pos (i + suc n)) m (omega (arith, ints)) (omega (arith, ints))
  where
    next : (i n : ℕ) → i + 1 + n ≡ i + suc n
    next i n = omega arith

-- the numbers of a window
pub numbers_has : (lo hi m : ℤ) → lo ≤ℤ hi → has (numbers lo hi) m ≡ in_window (lo, hi) m
numbers_has lo hi m l =
    run_has lo 0 (nat_abs (hi -ℤ lo) + 1) m
    ∙ same_Bool (int_le (lo +ℤ pos 0) m && int_lt m (lo +ℤ pos (0 + (nat_abs (hi -ℤ lo) + 1)))) (in_window (lo, hi) m)
    (λ h. let k = and_parts (int_le (lo +ℤ pos 0) m) (int_lt m (lo +ℤ pos (0 + (nat_abs (hi -ℤ lo) + 1)))) h in
    let low = int_le_yes (lo +ℤ pos 0) m k.0 in let high = int_lt_yes m (lo +ℤ pos (0 + (nat_abs (hi -ℤ lo) + 1))) k.1 in
    lying (lo, hi) m (record { low = omega (arith, ints); high = omega (arith, ints) }))
    (λ h. let k = lies (lo, hi) m h in
    and_from (int_le (lo +ℤ pos 0) m) (int_lt m (lo +ℤ pos (0 + (nat_abs (hi -ℤ lo) + 1))))
    (yes_int_le (lo +ℤ pos 0) m (omega (arith, ints))) (yes_int_lt m (lo +ℤ pos (0 + (nat_abs (hi -ℤ lo) + 1))) (omega (arith, ints))))

-- they rise
pub numbers_rise : (lo hi m : ℤ) → m <ℤ lo → rises_from m (numbers lo hi) ≡ true
numbers_rise lo hi m l = run_rises lo 0 (nat_abs (hi -ℤ lo) + 1) m (omega (arith, ints))

-- the positions of n members
pub positions_rise : (i n : ℕ) (m : ℤ) → m <ℤ pos i → rises_from m (map pos (range_with_len i n)) ≡ true
positions_rise i zero m l = refl
positions_rise i (suc n) m l = and_from (int_lt m (pos i)) (rises_from (pos i) (map pos (range_with_len (i + 1) n))) (yes_int_lt m (pos i) l) (positions_rise (i + 1) n (pos i) (omega (arith, ints)))
