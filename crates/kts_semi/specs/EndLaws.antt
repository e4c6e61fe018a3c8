-- The laws of ends and windows.
use Rattle.std.proofs.Common.{◌≡◌, refl, sym, ◌∙◌, ap, Bool, true, false, cond, Some, None, ℤ, ◌≤ℤ◌, arith}
use Rattle.std.proofs.Common.{subst, int_le}
use Rattle.std.proofs.lemmas.Option.{none-some}
use Rattle.std.specs.Int.{int_min, int_max}
use Rattle.std.proofs.lemmas.Int.{ints, clamps}
use Rattle.std.proofs.lemmas.Bool.{and_parts, and_from}
use Rattle.kts_semi.specs.Semilattice.{IsSemi, IsLeast}
use Rattle.kts_semi.specs.Ends.{InLimits, InEnds, min_end, max_end, in_limits, in_ends, not_before, not_after, later, earlier, room_above, room_below, inside, overlap, width}

le_yes : (a b : ℤ) → int_le a b ≡ true → a ≤ℤ b
le_yes a b h = grind (arith, ints)

yes_le : (a b : ℤ) → a ≤ℤ b → int_le a b ≡ true
yes_le a b h = grind (arith, ints)

le_no : (a b : ℤ) → int_le a b ≡ false → a ≤ℤ b → ⊥
le_no a b h l = grind (arith, ints)

some_is : {A : Type 0} {a b : A} → Some a ≡ Some b → a ≡ b
some_is {a = a} h = ap (λ o. elim o as (λ _. _) [ Some x ↦ x | None ↦ a ]) h

-- the computing test of an end
pub in_limits-InLimits : (n : ℤ) → InLimits n → in_limits n ≡ true
in_limits-InLimits n v = and_from (int_le min_end n) (int_le n max_end) (yes_le min_end n v.low) (yes_le n max_end v.high)

-- the computing test finds ends alone
pub InLimits-in_limits : (n : ℤ) → in_limits n ≡ true → InLimits n
InLimits-in_limits n h = let p = and_parts (int_le min_end n) (int_le n max_end) h in record { low = le_yes min_end n p.0; high = le_yes n max_end p.1 }

-- the computing test of the ends of a window
pub in_ends-InEnds : (w : ℤ × ℤ) → InEnds w → in_ends w ≡ true
in_ends-InEnds w v = and_from (in_limits w.0) (in_limits w.1)
    (in_limits-InLimits w.0 (record { low = v.low; high = omega (arith, ints) }))
    (in_limits-InLimits w.1 (record { low = omega (arith, ints); high = v.high }))

-- two ends in order are those of a window
pub InEnds-in_ends : (w : ℤ × ℤ) → in_ends w ≡ true → w.0 ≤ℤ w.1 → InEnds w
InEnds-in_ends w h o =
    let p = and_parts (in_limits w.0) (in_limits w.1) h in
    let low = InLimits-in_limits w.0 p.0 in
    let high = InLimits-in_limits w.1 p.1 in
    record { low = low.low; ordered = o; high = high.high }

pub earliest_laws : IsSemi InLimits not_before later room_above
earliest_laws = record {
  reflexive = λ a v. grind (arith, ints);
  transitive = λ a b c u v w h k. grind (arith, ints);
  antisymmetric = λ a b u v h k. grind (arith, ints);
  some = λ a b c u v e. subst (λ c. IsLeast InLimits not_before a b c) (some_is e) (record {
    valid = record { low = omega (arith, ints, clamps); high = omega (arith, ints, clamps) };
    left = yes_le a (int_max a b) (omega (arith, ints, clamps));
    right = yes_le b (int_max a b) (omega (arith, ints, clamps));
    least = λ d w h k. yes_le (int_max a b) d (omega (arith, ints, clamps, le_yes a d h, le_yes b d k));
  });
  none = λ a b c u v e. absurd (none-some _ (sym e));
  positive = λ a v. omega (arith, ints);
  falls = λ a b u v h n. grind (arith, ints);
}

pub latest_laws : IsSemi InLimits not_after earlier room_below
latest_laws = record {
  reflexive = λ a v. grind (arith, ints);
  transitive = λ a b c u v w h k. grind (arith, ints);
  antisymmetric = λ a b u v h k. grind (arith, ints);
  some = λ a b c u v e. subst (λ c. IsLeast InLimits not_after a b c) (some_is e) (record {
    valid = record { low = omega (arith, ints, clamps); high = omega (arith, ints, clamps) };
    left = yes_le (int_min a b) a (omega (arith, ints, clamps));
    right = yes_le (int_min a b) b (omega (arith, ints, clamps));
    least = λ d w h k. yes_le d (int_min a b) (omega (arith, ints, clamps, le_yes d a h, le_yes d b k));
  });
  none = λ a b c u v e. absurd (none-some _ (sym e));
  positive = λ a v. omega (arith, ints);
  falls = λ a b u v h n. grind (arith, ints);
}

-- the first lies round the second
record Round (a b : ℤ × ℤ) : Type 0 where
  low : a.0 ≤ℤ b.0
  high : b.1 ≤ℤ a.1

round : (a b : ℤ × ℤ) → inside a b ≡ true → Round a b
round a b h = let p = and_parts (int_le a.0 b.0) (int_le b.1 a.1) h in record { low = le_yes _ _ p.0; high = le_yes _ _ p.1 }

is_inside : (a b : ℤ × ℤ) → Round a b → inside a b ≡ true
is_inside a b r = and_from (int_le a.0 b.0) (int_le b.1 a.1) (yes_le _ _ r.low) (yes_le _ _ r.high)

between_some : (a b : ℤ × ℤ) (t : Bool) → cond t (Some a) None ≡ Some b → (t ≡ true) × (a ≡ b)
between_some a b true e = (refl, some_is e)
between_some a b false e = absurd (none-some b e)

between_none : (a : ℤ × ℤ) (t : Bool) → cond t (Some a) None ≡ None → t ≡ false
between_none a true e = absurd (none-some a (sym e))
between_none a false e = refl

overlap_least : (a b : ℤ × ℤ) → InEnds a → InEnds b → int_max a.0 b.0 ≤ℤ int_min a.1 b.1 → IsLeast InEnds inside a b (int_max a.0 b.0, int_min a.1 b.1)
overlap_least a b u v o = record {
  valid = record { low = omega (arith, ints, clamps); ordered = o; high = omega (arith, ints, clamps) };
  left = is_inside a (int_max a.0 b.0, int_min a.1 b.1) (record { low = omega (arith, ints, clamps); high = omega (arith, ints, clamps) });
  right = is_inside b (int_max a.0 b.0, int_min a.1 b.1) (record { low = omega (arith, ints, clamps); high = omega (arith, ints, clamps) });
  least = λ d w h k. let p = round a d h in let q = round b d k in
      is_inside (int_max a.0 b.0, int_min a.1 b.1) d (record { low = omega (arith, ints, clamps); high = omega (arith, ints, clamps) });
}

pub window_laws : IsSemi InEnds inside overlap width
window_laws = record {
  reflexive = λ a v. is_inside a a (record { low = omega (arith, ints); high = omega (arith, ints) });
  transitive = λ a b c u v w h k. let p = round a b h in let q = round b c k in is_inside a c (record { low = omega (arith, ints); high = omega (arith, ints) });
  antisymmetric = λ a b u v h k. let p = round a b h in let q = round b a k in
      let l : a.0 ≡ b.0 = omega (arith, ints) in let r : a.1 ≡ b.1 = omega (arith, ints) in ap (λ z. (z, a.1)) l ∙ ap (λ z. (b.0, z)) r;
  some = λ a b c u v e.
      let s = between_some (int_max a.0 b.0, int_min a.1 b.1) c (int_le (int_max a.0 b.0) (int_min a.1 b.1)) e in
      subst (λ c. IsLeast InEnds inside a b c) s.1 (overlap_least a b u v (le_yes (int_max a.0 b.0) (int_min a.1 b.1) s.0));
  none = λ a b c u v e w h k. let p = round a c h in let q = round b c k in
      le_no (int_max a.0 b.0) (int_min a.1 b.1) (between_none (int_max a.0 b.0, int_min a.1 b.1) (int_le (int_max a.0 b.0) (int_min a.1 b.1)) e)
      (omega (arith, ints, clamps, w.ordered));
  positive = λ a v. omega (arith, ints);
  falls = λ a b u v h n. let p = round a b h in grind (arith, ints);
}
