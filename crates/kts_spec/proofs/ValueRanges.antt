-- Operations on numbers that lie between two ends.
use Rattle.std.proofs.Common.{◌≡◌, Bool, true, false, cond, ℕ, suc, ◌≤◌, List, [], ◌∷◌, length, fold, arith, ℤ, pos, ◌+ℤ◌, ◌-ℤ◌, ◌*ℤ◌, ◌≤ℤ◌}
use Rattle.std.proofs.Math.IntN.{suc_ℤ-*ℤ}
use Rattle.std.proofs.lemmas.Int.{ints, clamps}
use Rattle.std.specs.Int.{int_min, int_max}
use Rattle.kts_base.specs.Limits.{most_members}
use Rattle.kts_spec.specs.Ranges.{Range, sum_range, difference_range, product_range, least_range, greatest_range, sum_over_range}
use Rattle.kts_spec.specs.Related.{AllOf}
use Rattle.kts_spec.proofs.Products.{Between, between, between', falls, rises}

-- between the ends
abbrev pub Lies : Range → ℤ → Type 0
Lies r v = (r.0 ≤ℤ v) × (v ≤ℤ r.1)

-- a number between numbers of which two lie between others
among_four : (m n p q r s z : ℤ) → Between m n z → Between p q m → Between r s n → Lies (int_min (int_min p q) (int_min r s), int_max (int_max p q) (int_max r s)) z
among_four m n p q r s z h k l = (omega (arith, ints, clamps), omega (arith, ints, clamps))

pub sum_lies : (a b : Range) (x y : ℤ) → Lies a x → Lies b y → Lies (sum_range a b) (x +ℤ y)
sum_lies a b x y p q = (omega (arith, ints), omega (arith, ints))

pub difference_lies : (a b : Range) (x y : ℤ) → Lies a x → Lies b y → Lies (difference_range a b) (x -ℤ y)
difference_lies a b x y p q = (omega (arith, ints), omega (arith, ints))

pub product_lies : (a b : Range) (x y : ℤ) → Lies a x → Lies b y → Lies (product_range a b) (x *ℤ y)
product_lies a b x y p q =
    among_four (a.0 *ℤ y) (a.1 *ℤ y) (a.0 *ℤ b.0) (a.0 *ℤ b.1) (a.1 *ℤ b.0) (a.1 *ℤ b.1) (x *ℤ y)
    (between a.0 a.1 x y p.0 p.1) (between' b.0 b.1 y a.0 q.0 q.1) (between' b.0 b.1 y a.1 q.0 q.1)

pub least_lies : (a b : Range) (x y : ℤ) → Lies a x → Lies b y → Lies (least_range a b) (int_min x y)
least_lies a b x y p q = (omega (arith, ints, clamps), omega (arith, ints, clamps))

pub greatest_lies : (a b : Range) (x y : ℤ) → Lies a x → Lies b y → Lies (greatest_range a b) (int_max x y)
greatest_lies a b x y p q = (omega (arith, ints, clamps), omega (arith, ints, clamps))

-- the range with 0
abbrev pub with_zero : Range → Range
with_zero r = (int_min r.0 (pos 0), int_max r.1 (pos 0))

pub kept_lies : (b : Bool) (r : Range) (v : ℤ) → Lies r v → Lies (with_zero r) (cond b v (pos 0))
kept_lies true r v h = (omega (arith, ints, clamps), omega (arith, ints, clamps))
kept_lies false r v h = (omega (arith, ints, clamps), omega (arith, ints, clamps))

-- one more addend
one_more : (n : ℕ) (k : ℤ) → pos (suc n) *ℤ k ≡ pos n *ℤ k +ℤ k
one_more n k = suc_ℤ-*ℤ (pos n) k

-- a sum of numbers between two ends
total_lies : (xs : List ℤ) (r : Range) (start : ℤ) → AllOf (Lies r) xs → Lies (start +ℤ pos (length xs) *ℤ r.0, start +ℤ pos (length xs) *ℤ r.1) (fold ◌+ℤ◌ start xs)
total_lies [] r start h = (omega (arith, ints), omega (arith, ints))
total_lies (x ∷ xs) r start h =
    let l = one_more (length xs) r.0 in let u = one_more (length xs) r.1 in
    let rest = total_lies xs r (start +ℤ x) h.1 in
    let low = h.0.0 in let high = h.0.1 in
    (omega (arith, ints), omega (arith, ints))

-- a sum of as many numbers as an index may have members, each in the range or 0
pub sum_over_lies : (xs : List ℤ) (r : Range) → length xs ≤ most_members → AllOf (Lies (with_zero r)) xs → Lies (sum_over_range r) (fold ◌+ℤ◌ (pos 0) xs)
sum_over_lies xs r few h =
    let t = total_lies xs (with_zero r) (pos 0) h in
    let n : pos (length xs) ≤ℤ pos most_members = omega (arith, ints) in
    let low : (pos most_members *ℤ int_min r.0 (pos 0)) ≤ℤ (pos (length xs) *ℤ int_min r.0 (pos 0)) = falls (pos (length xs)) (pos most_members) (int_min r.0 (pos 0)) n (omega (arith, ints, clamps)) in
    let high : (pos (length xs) *ℤ int_max r.1 (pos 0)) ≤ℤ (pos most_members *ℤ int_max r.1 (pos 0)) = rises (pos (length xs)) (pos most_members) (int_max r.1 (pos 0)) n (omega (arith, ints, clamps)) in
    (omega (arith, ints), omega (arith, ints))
