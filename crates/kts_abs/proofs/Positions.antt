-- Cells as abstract values.
use Rattle.std.proofs.Common.{◌≡◌, refl, sym, ◌∙◌, ap, subst, ◌↔◌, ℕ, suc, ◌+◌, ◌<◌, true, false, nat_eq, ℤ, pos, negsuc, ◌-ℤ◌, ◌≤ℤ◌, nat_abs, int_lt, List, [], ◌∷◌, length, map, arith}
use Rattle.std.specs.Prelude.{slice_index}
use Rattle.std.specs.List.Sorted.{IsStrictlyIncreasing}
use Rattle.std.specs.Ordering.{int_eq}
use Rattle.std.proofs.lemmas.Int.{ints}
use Rattle.std.proofs.lemmas.Bool.{and_from, eqb-true, eq-eqb, true≢false}
use Rattle.std.proofs.lemmas.List.{length-map}
use lib.Signed.{mag}
use Rattle.kts_sets.specs.Sets.{elem}
use Rattle.kts_sets.specs.SetLaws.{IsSet-rises}
use Rattle.kts_sets.specs.Choices.{IsChoice}
use Rattle.kts_abs.specs.declared.cell.Cell.{Cell}
use Rattle.kts_abs.specs.declared.cell.Cell.TheVariants.{Win, Mem}
use Rattle.kts_abs.specs.Abstraction.{Finer}
use Rattle.kts_abs.specs.Cells.{IsValid, is_above, extent, value_of}
use Rattle.kts_abs.specs.MemberLaws.{choices}
use Rattle.kts_abs.specs.Members.{has_member}
use Rattle.kts_abs.specs.Values.{has, rises_from, is_cell, room_of, Refines}
use Rattle.kts_base.proofs.Orders.{yes_int_le, yes_int_lt}
use Rattle.kts_abs.specs.WindowLaws.{windows, eq_yes, yes_eq, low_end}
use Rattle.kts_abs.proofs.Rising.{same_Bool}

-- positions are equal where their values are
pub pos_eq : (m n : ℕ) → int_eq (pos m) (pos n) ≡ nat_eq m n
pos_eq m n = same_Bool (int_eq (pos m) (pos n)) (nat_eq m n)
    (λ h. let e = eq_yes (pos m) (pos n) h in eq-eqb m n (omega (arith, ints)))
    (λ h. yes_eq (pos m) (pos n) (ap pos (eqb-true m n h)))

-- the members of a set by their positions
pub has-pos : (ms : List ℕ) (n : ℕ) → has (map pos ms) (pos n) ≡ elem n ms
unfolding elem
has-pos [] n = refl
has-pos (m ∷ ms) n = rw (pos_eq n m, has-pos ms n) refl

-- no position is negative
pub has-negsuc : (ms : List ℕ) (n : ℕ) → has (map pos ms) (negsuc n) ≡ false
has-negsuc [] n = refl
has-negsuc (m ∷ ms) n = has-negsuc ms n

-- a rising list without its first rises
later_rise : (m : ℕ) (ms : List ℕ) → IsStrictlyIncreasing (m ∷ ms) → IsStrictlyIncreasing ms
later_rise m ms s k h =
    let e : suc k + 1 ≡ suc (k + 1) = omega arith in
    subst (λ j. slice_index ms k < slice_index (m ∷ ms) j) e (s (suc k) (omega (arith, h)))

-- positions rise as values
pub rises-pos : (m : ℕ) (ms : List ℕ) → IsStrictlyIncreasing (m ∷ ms) → rises_from (pos m) (map pos ms) ≡ true
rises-pos m [] s = refl
rises-pos m (n ∷ ms) s =
    let l : m < n = s 0 (omega arith) in
    and_from (int_lt (pos m) (pos n)) (rises_from (pos n) (map pos ms)) (yes_int_lt (pos m) (pos n) (omega (arith, ints))) (rises-pos n ms (later_rise m (n ∷ ms) s))

-- a valid cell is a value of a cell of a space
pub cell_is : {W : ℕ} → (a : Cell W) → IsValid a → is_cell (value_of a) ≡ true
cell_is (Win w) v = yes_int_le w.0 w.1 v.ordered
cell_is (Mem []) v = absurd (omega (arith, v.some))
cell_is (Mem (m ∷ ms)) v = rises-pos m ms (IsSet-rises (m ∷ ms) v.set)

-- a set with fewer members is finer
members_within : (ms ns : List ℕ) → IsChoice ns → ((m : ℕ) → has_member ns m ≡ true → has_member ms m ≡ true) → Finer has (map pos ns) (map pos ms)
members_within ms ns v f =
    let some = choices.solid ns v in
    record {
      witness = pos some.0;
      allowed = has-pos ns some.0 ∙ some.1;
      within = λ n h. each n h;
    }
  where
    each : (n : ℤ) → has (map pos ns) n ≡ true → has (map pos ms) n ≡ true
    each (pos n) h = has-pos ms n ∙ f n (sym (has-pos ns n) ∙ h)
    each (negsuc n) h = absurd (true≢false (sym h ∙ has-negsuc ns n))

-- a finer set has no other members
within_members : (ms ns : List ℕ) → Finer has (map pos ns) (map pos ms) → (m : ℕ) → has_member ns m ≡ true → has_member ms m ≡ true
within_members ms ns f m h = sym (has-pos ms m) ∙ f.within (pos m) (has-pos ns m ∙ h)

-- the order of cells is that of their values
pub above_is : {W : ℕ} → (a b : Cell W) → IsValid a → IsValid b → (is_above a b ≡ true) ↔ Refines (value_of b) (value_of a)
above_is (Win v) (Win w) p q =
    let o = windows.order v w p q in
    (λ h. record { witness = w.0; allowed = low_end w q.ordered; within = o.0 h }, λ f. o.1 f.within)
above_is (Win v) (Mem ns) p q = (λ h. true≢false (sym h), λ f. absurd f)
above_is (Mem ms) (Win w) p q = (λ h. true≢false (sym h), λ f. absurd f)
above_is (Mem ms) (Mem ns) p q =
    let o = choices.order ms ns p q in
    (λ h. members_within ms ns q (o.0 h), λ f. o.1 (within_members ms ns f))

-- two measures of a number that is not negative
sizes_agree : (z : ℤ) → pos 0 ≤ℤ z → mag z ≡ nat_abs z
sizes_agree (pos n) h = refl
sizes_agree (negsuc n) h = absurd (omega (arith, ints))

-- a cell has one value more than its room
pub room_is : {W : ℕ} → (a : Cell W) → IsValid a → extent a ≡ room_of (value_of a) + 1
room_is (Win w) v = ap (λ k. k + 1) (sizes_agree (w.1 -ℤ w.0) (omega (arith, ints, v.ordered)))
room_is (Mem ms) v = let e : length (map pos ms) ≡ length ms = simp length-map refl in omega (arith, e, v.some)

-- positions are told apart by their values
same_positions : (ms ns : List ℕ) → map pos ms ≡ map pos ns → ms ≡ ns
same_positions [] [] e = refl
same_positions [] (n ∷ ns) e = cc
same_positions (m ∷ ms) [] e = cc
same_positions (m ∷ ms) (n ∷ ns) e =
    let h : m ≡ n = cc in
    let t : map pos ms ≡ map pos ns = cc in
    ap (λ k. k ∷ ms) h ∙ ap (λ ks. n ∷ ks) (same_positions ms ns t)

-- two cells of one value are one
pub value_is : {W : ℕ} → (a b : Cell W) → value_of a ≡ value_of b → a ≡ b
value_is (Win v) (Win w) e = let h : v ≡ w = cc in ap (λ u. Win u) h
value_is (Win v) (Mem ns) e = cc
value_is (Mem ms) (Win w) e = cc
value_is (Mem ms) (Mem ns) e = let h : map pos ms ≡ map pos ns = cc in ap (λ us. Mem us) (same_positions ms ns h)
