-- Words that are made place by place.
use Rattle.std.proofs.Common.{◌≡◌, refl, ◌∙◌, sym, ap, ℕ, suc, zero, ◌+◌, ◌*◌, ◌-◌, ◌/◌, ◌%◌, ◌^◌, ◌<◌, ◌≤◌, inl, inr, min, max, false, ◌&&◌, ◌||◌, List, ◌++◌, length, nat_eq, nat_lt, slice_index_or, replicate, bit_and, bit_or, arith}
use Rattle.std.specs.Int.{bit_at}
use Rattle.std.proofs.lemmas.Nat.Bits.{bit_at-lt, bit_at_and, bit_at_or, bit_at-zero, bit_at_ones, bit_at_ones_above}
use Rattle.std.proofs.lemmas.Nat.{mod_below, div-add-mod'}
use Rattle.std.proofs.Math.Nat.{mod-eq_of_lt}
use Rattle.std.proofs.Math.Pow.{pow-lt}
use Rattle.std.proofs.lemmas.Bool.{cases_lt, lt-ltb, le-ltb}
use Rattle.std.proofs.lemmas.List.{get_or_past, get_or_append_left, get_or-append_right}
use Rattle.kts_sets.specs.Bits.{has}

-- words have nothing past their end
pub has_past : (words : List ℕ) (m : ℕ) → length words ≤ m / 64 → has words m ≡ false
unfolding has
has_past words m h = rw (get_or_past words (m / 64) 0 h, bit_at-zero (m % 64)) refl

pub get_or-zeros : (w k : ℕ) → slice_index_or (let z : ℕ = 0 in replicate w z) k 0 ≡ 0
get_or-zeros zero k = refl
get_or-zeros (suc w) zero = refl
get_or-zeros (suc w) (suc k) = get_or-zeros w k

-- words of zeros have nothing
pub has-zeros : (w m : ℕ) → has (replicate w 0) m ≡ false
unfolding has
has-zeros w m = rw (get_or-zeros w (m / 64), bit_at-zero (m % 64)) refl

min-bits : (x y : ℕ) → x < 2 → y < 2 → nat_eq (min x y) 1 ≡ (nat_eq x 1 && nat_eq y 1)
min-bits zero zero h k = refl
min-bits zero (suc zero) h k = refl
min-bits zero (suc (suc y)) h k = absurd (omega arith)
min-bits (suc zero) zero h k = refl
min-bits (suc zero) (suc zero) h k = refl
min-bits (suc zero) (suc (suc y)) h k = absurd (omega arith)
min-bits (suc (suc x)) y h k = absurd (omega arith)

max-bits : (x y : ℕ) → x < 2 → y < 2 → nat_eq (max x y) 1 ≡ (nat_eq x 1 || nat_eq y 1)
max-bits zero zero h k = refl
max-bits zero (suc zero) h k = refl
max-bits zero (suc (suc y)) h k = absurd (omega arith)
max-bits (suc zero) zero h k = refl
max-bits (suc zero) (suc zero) h k = refl
max-bits (suc zero) (suc (suc y)) h k = absurd (omega arith)
max-bits (suc (suc x)) y h k = absurd (omega arith)

-- the bits that both words have
pub has-and : (w : ℕ) (a b out : List ℕ) → length a ≡ w → length out ≡ w →
    ((k : ℕ) → k < w → slice_index_or out k 0 ≡ bit_and (slice_index_or a k 0) (slice_index_or b k 0)) →
    (m : ℕ) → has out m ≡ (has a m && has b m)
unfolding has
has-and w a b out la lo each m = elim (cases_lt (m / 64) w) [
  | inl h ↦ rw (each (m / 64) h, bit_at_and (slice_index_or a (m / 64) 0) (slice_index_or b (m / 64) 0) (m % 64))
      (min-bits _ _ (bit_at-lt (slice_index_or a (m / 64) 0) (m % 64)) (bit_at-lt (slice_index_or b (m / 64) 0) (m % 64)))
  | inr h ↦ rw (get_or_past out (m / 64) 0 (omega arith), get_or_past a (m / 64) 0 (omega arith), bit_at-zero (m % 64)) refl
]

-- the bits that either word has
pub has-or : (w : ℕ) (a b out : List ℕ) → length a ≡ w → length b ≡ w → length out ≡ w →
    ((k : ℕ) → k < w → slice_index_or out k 0 ≡ bit_or (slice_index_or a k 0) (slice_index_or b k 0)) →
    (m : ℕ) → has out m ≡ (has a m || has b m)
unfolding has
has-or w a b out la lb lo each m = elim (cases_lt (m / 64) w) [
  | inl h ↦ rw (each (m / 64) h, bit_at_or (slice_index_or a (m / 64) 0) (slice_index_or b (m / 64) 0) (m % 64))
      (max-bits _ _ (bit_at-lt (slice_index_or a (m / 64) 0) (m % 64)) (bit_at-lt (slice_index_or b (m / 64) 0) (m % 64)))
  | inr h ↦ rw (get_or_past out (m / 64) 0 (omega arith), get_or_past a (m / 64) 0 (omega arith), get_or_past b (m / 64) 0 (omega arith), bit_at-zero (m % 64)) refl
]

-- the lowest bits of a word, for the numbers from low to n
pub bit_at-low_ones : (low n j : ℕ) → low < n → n < low + 64 → nat_eq (bit_at (1 * 2 ^ (n - low) % 2 ^ 64 - 1) j) 1 ≡ nat_lt (low + j) n
bit_at-low_ones low n j some less =
    let e : 1 * 2 ^ (n - low) % 2 ^ 64 ≡ 2 ^ (n - low) = ap (λ z. z % 2 ^ 64) (omega arith) ∙ mod-eq_of_lt (pow-lt {i = n - low} {j = 64} (omega arith)) in
    elim (cases_lt j (n - low)) [
      | inl h ↦ rw (e, bit_at_ones (n - low) j h, lt-ltb (low + j) n (omega arith)) refl
      | inr h ↦ rw (e, bit_at_ones_above (n - low) j h, le-ltb (low + j) n (omega arith)) refl
    ]

-- the bits of the numbers below n
pub has-below : (w n : ℕ) (out : List ℕ) → length out ≡ w → n ≤ 64 * w →
    ((k : ℕ) → k < w → (j : ℕ) → j < 64 → nat_eq (bit_at (slice_index_or out k 0) j) 1 ≡ nat_lt (k * 64 + j) n) →
    (m : ℕ) → has out m ≡ nat_lt m n
unfolding has
has-below w n out lo few each m = elim (cases_lt (m / 64) w) [
  | inl h ↦ each (m / 64) h (m % 64) (mod_below m 64 (omega arith)) ∙ ap (λ z. nat_lt z n) (div-add-mod' m 64)
  | inr h ↦ rw (get_or_past out (m / 64) 0 (omega arith), bit_at-zero (m % 64)) (sym (le-ltb m n (omega arith)))
]

-- zeros at the end add nothing
pub has-append-zeros : (words : List ℕ) (n m : ℕ) → has (words ++ replicate n 0) m ≡ has words m
unfolding has
has-append-zeros words n m = elim (cases_lt (m / 64) (length words)) [
  | inl h ↦ rw (get_or_append_left words (replicate n 0) 0 (m / 64) h) refl
  | inr h ↦ rw (get_or-append_right words (replicate n 0) (length words) (m / 64) 0 refl h, get_or-zeros n (m / 64 - length words), get_or_past words (m / 64) 0 h) refl
]
