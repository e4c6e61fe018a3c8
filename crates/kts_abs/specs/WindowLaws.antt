-- The order of windows is that of the numbers in them.
use Rattle.kts_base.proofs.Orders.{int_le_yes, yes_int_le}
use Rattle.std.proofs.Common.{◌≡◌, refl, sym, ◌∙◌, ap, Bool, true, false, cond, Some, None, ℤ, ◌≤ℤ◌, int_le, arith}
use Rattle.std.proofs.lemmas.Int.{ints}
use Rattle.std.proofs.lemmas.Bool.{and_parts, and_from}
use Rattle.std.specs.Ordering.{int_eq}
use Rattle.kts_semi.specs.Ends.{InEnds, inside}
use Rattle.kts_abs.specs.Abstraction.{Only, IsOperand}
use Rattle.kts_abs.specs.Windows.{Window, in_window, single_of}

-- what the test of equality finds, and when it does
pub eq_yes : (a b : ℤ) → int_eq a b ≡ true → a ≡ b
eq_yes a b h = grind (arith, ints)

pub yes_eq : (a b : ℤ) → a ≡ b → int_eq a b ≡ true
yes_eq a b h = grind (arith, ints)

-- the number lies between the ends
pub record Lies (w : Window) (n : ℤ) : Type 0 where
  pub low : w.0 ≤ℤ n
  pub high : n ≤ℤ w.1

-- the test of membership goes by the ends
pub lies : (w : Window) (n : ℤ) → in_window w n ≡ true → Lies w n
lies w n h = let p = and_parts (int_le w.0 n) (int_le n w.1) h in record { low = int_le_yes w.0 n p.0; high = int_le_yes n w.1 p.1 }

pub lying : (w : Window) (n : ℤ) → Lies w n → in_window w n ≡ true
lying w n l = and_from (int_le w.0 n) (int_le n w.1) (yes_int_le w.0 n l.low) (yes_int_le n w.1 l.high)

-- a window that is not empty has its ends
pub low_end : (w : Window) → w.0 ≤ℤ w.1 → in_window w w.0 ≡ true
low_end w h = lying w w.0 (record { low = omega (arith, ints); high = h })

pub high_end : (w : Window) → w.0 ≤ℤ w.1 → in_window w w.1 ≡ true
high_end w h = lying w w.1 (record { low = h; high = omega (arith, ints) })

-- where both ends are the number, it is the only one
pub only_at : (w : Window) (n : ℤ) → w.0 ≡ n → w.1 ≡ n → Only in_window n w
only_at w n e f = record {
  allowed = lying w n (record { low = omega (arith, ints); high = omega (arith, ints) });
  alone = λ m h. let l = lies w m h in omega (arith, ints);
}

-- where a window has one number, both ends are that number
pub only_ends : (w : Window) (n : ℤ) → Only in_window n w → (w.0 ≡ n) × (w.1 ≡ n)
only_ends w n o =
    let l = lies w n o.allowed in
    let h : w.0 ≤ℤ w.1 = omega (arith, ints) in
    (o.alone w.0 (low_end w h), o.alone w.1 (high_end w h))

-- a value comes of a test that passes alone
chosen : (t : Bool) (m n : ℤ) → cond t (Some m) None ≡ Some n → (t ≡ true) × (m ≡ n)
chosen true m n e = (refl, cc)
chosen false m n e = cc

pub windows : IsOperand InEnds in_window inside single_of
windows = record {
  solid = λ a v. (a.0, low_end a v.ordered);
  order = λ a b u v. (
    λ h x l. let p = and_parts (int_le a.0 b.0) (int_le b.1 a.1) h in
        let low = int_le_yes a.0 b.0 p.0 in let high = int_le_yes b.1 a.1 p.1 in let k = lies b x l in
        lying a x (record { low = omega (arith, ints); high = omega (arith, ints) }),
    λ f. let low = lies a b.0 (f b.0 (low_end b v.ordered)) in let high = lies a b.1 (f b.1 (high_end b v.ordered)) in
        and_from (int_le a.0 b.0) (int_le b.1 a.1) (yes_int_le a.0 b.0 low.low) (yes_int_le b.1 a.1 high.high),
  );
  only = λ a x v. (
    λ e. let p = chosen (int_eq a.0 a.1) a.0 x e in let q = eq_yes a.0 a.1 p.0 in only_at a x p.1 (sym q ∙ p.1),
    λ o. let p = only_ends a x o in
        let t : int_eq a.0 a.1 ≡ true = yes_eq a.0 a.1 (p.0 ∙ sym p.1) in rw t (ap (λ n. Some n) p.0),
  );
}
