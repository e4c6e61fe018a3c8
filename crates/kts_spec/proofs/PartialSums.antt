-- The sum of the first of as many addends as a comparison may have stays in the machine's range.
use Rattle.std.proofs.Common.{◌≡◌, refl, ap, ℕ, zero, suc, ◌+◌, ◌*◌, ◌≤◌, List, [], ◌∷◌, length, map, take, fold, Some, pos, neg_ℤ, ◌≤ℤ◌, arith}
use Rattle.std.proofs.lemmas.Int.{ints}
use Rattle.kts_base.specs.Limits.{most_addends, most_number, most_window_end}
use Rattle.kts_spec.specs.declared.schema.Schema.{Schema}
use Rattle.kts_spec.specs.Addends.{Sign, Plus, Minus, Addend}
use Rattle.kts_spec.specs.Ranges.{Range, sum_range, total_range}
use Rattle.kts_spec.specs.Related.{AllOf}
use Rattle.kts_spec.specs.Sums.{Within, range_with_sign, addend_range, SumFits}
use Rattle.kts_spec.proofs.AddendRanges.{HasRange}

-- both ends lie within so many times the limit on numbers
record Near (n : ℕ) (w : Range) : Type 0 where
  low : neg_ℤ (pos (most_number * n)) ≤ℤ w.0
  rising : w.0 ≤ℤ w.1
  high : w.1 ≤ℤ pos (most_number * n)

near_more : (n : ℕ) (v w : Range) → Near n v → Within (pos most_number) w → Near (suc n) (sum_range v w)
near_more n v w h k = record { low = omega (arith, ints); rising = omega (arith, ints); high = omega (arith, ints) }

near_fits : (n : ℕ) (w : Range) → n ≤ suc most_addends → Near n w → Within (pos most_window_end) w
near_fits n w few h = record { low = omega (arith, ints); rising = h.rising; high = omega (arith, ints) }

first_fit : (ws : List Range) (k n : ℕ) (start : Range) → AllOf (Within (pos most_number)) ws → n + length ws ≤ suc most_addends → Near n start → Within (pos most_window_end) (fold sum_range start (take k ws))
first_fit ws zero n start h few near = near_fits n start (omega arith) near
first_fit [] (suc k) n start h few near = near_fits n start (omega arith) near
first_fit (w ∷ ws) (suc k) n start h few near = first_fit ws k (suc n) (sum_range start w) h.1 (omega arith) (near_more n start w near h.0)

partial_fit : (ws : List Range) (k : ℕ) → AllOf (Within (pos most_number)) ws → length ws ≤ suc most_addends → Within (pos most_window_end) (total_range (take k ws))
partial_fit ws k h few =
    first_fit ws k 0 (pos 0, pos 0) h (omega arith) (record { low = omega (arith, ints); rising = omega (arith, ints); high = omega (arith, ints) })

-- with either sign a range keeps the limit
signed_within : (s : Sign) (w : Range) → Within (pos most_number) w → Within (pos most_number) (range_with_sign s w)
signed_within Plus w h = h
signed_within Minus w h = record { low = omega (arith, ints); rising = omega (arith, ints); high = omega (arith, ints) }

module _ (schema : Schema) (scope : List ℕ) where
  ranges_of : (xs : List Addend) → AllOf (HasRange schema scope) xs → List Range
  ranges_of [] h = []
  ranges_of (a ∷ xs) h = range_with_sign a.sign h.0.range ∷ ranges_of xs h.1

  range_is : (a : Addend) (h : HasRange schema scope a) → addend_range schema scope a ≡ Some (range_with_sign a.sign h.range)
  range_is a h = rw h.is refl

  ranges_known : (xs : List Addend) (h : AllOf (HasRange schema scope) xs) → map (addend_range schema scope) xs ≡ map Some (ranges_of xs h)
  unfolding ranges_of
  ranges_known [] h = refl
  ranges_known (a ∷ xs) h = let e = range_is a h.0 in let f = ranges_known xs h.1 in cc

  ranges_within : (xs : List Addend) (h : AllOf (HasRange schema scope) xs) → AllOf (Within (pos most_number)) (ranges_of xs h)
  unfolding ranges_of
  ranges_within [] h = tt
  ranges_within (a ∷ xs) h = (signed_within a.sign h.0.range h.0.within, ranges_within xs h.1)

  ranges_count : (xs : List Addend) (h : AllOf (HasRange schema scope) xs) → length (ranges_of xs h) ≡ length xs
  unfolding ranges_of
  ranges_count [] h = refl
  ranges_count (a ∷ xs) h = ap suc (ranges_count xs h.1)

  -- as many addends with ranges as a comparison may have
  pub sum_fits : (xs : List Addend) → AllOf (HasRange schema scope) xs → length xs ≤ suc most_addends → SumFits schema scope xs
  sum_fits xs h few = record {
    ranges = ranges_of xs h;
    known = ranges_known xs h;
    numbers = ranges_within xs h;
    partial = λ k. partial_fit (ranges_of xs h) k (ranges_within xs h) (let e = ranges_count xs h in omega arith);
  }
