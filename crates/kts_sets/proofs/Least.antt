-- The least member from a number on.
use Rattle.std.proofs.Common.{◌≡◌, refl, sym, ◌∙◌, ap, ℕ, suc, zero, ◌+◌, ◌*◌, ◌-◌, ◌/◌, ◌%◌, ◌^◌, ◌<◌, ◌≤◌, inl, inr, min, Bool, true, false, ◌&&◌, List, [], ◌∷◌, length, nat_eq, slice_index_or, bit_and, Option, Some, None, slice_get, arith}
use Rattle.std.specs.List.{filter}
use Rattle.std.specs.Int.{bit_at}
use Rattle.std.proofs.lemmas.Nat.Bits.{bit_at-lt, bit_at_and, bit_at-zero, bit_at_mask_inside, bit_at_mask_below, ones_shl}
use Rattle.std.proofs.lemmas.Nat.{mod_below, div-add-mod'}
use Rattle.std.proofs.lemmas.Bool.{cases_lt, lt-ltb, le-ltb}
use Rattle.std.proofs.Math.Bool.{and-false}
use Rattle.kts_sets.specs.Sets.{limit, limit_is, set_of, not_below}
use Rattle.kts_sets.specs.SetLaws.{filter-set}
use Rattle.kts_sets.specs.Bits.{has, IsLowest, IsLeastFrom, IsLeastFromIfAny}
use Rattle.kts_sets.specs.BitLaws.{has-mul-add}
use Rattle.kts_sets.proofs.Pointwise.{has_past}
use Rattle.kts_sets.proofs.SimpleSets.{set_of-none, first-filter}

-- ---- a word without its bits below a place

min_bit : (x : ℕ) → x < 2 → min x 1 ≡ x
min_bit zero h = refl
min_bit (suc zero) h = refl
min_bit (suc (suc x)) h = absurd (omega arith)

min_zero : (x : ℕ) → min x 0 ≡ 0
min_zero zero = refl
min_zero (suc x) = grind arith

zero≢one : (let z : ℕ = 0 in z) ≡ 1 → ⊥
zero≢one e = omega (arith, e)

masked_above : (word k i : ℕ) → k ≤ i → i < 64 → bit_at (bit_and word ((2 ^ 64 - 1) * 2 ^ k % 2 ^ 64)) i ≡ bit_at word i
masked_above word k i l h = rw (ones_shl 64 k (omega arith), bit_at_and word (2 ^ 64 - 2 ^ k) i, bit_at_mask_inside k 64 i l h) (min_bit (bit_at word i) (bit_at-lt word i))

masked_below : (word k i : ℕ) → i < k → k < 64 → bit_at (bit_and word ((2 ^ 64 - 1) * 2 ^ k % 2 ^ 64)) i ≡ 0
masked_below word k i l h = rw (ones_shl 64 k (omega arith), bit_at_and word (2 ^ 64 - 2 ^ k) i, bit_at_mask_below k 64 i l) (min_zero (bit_at word i))

lowest_above : (word k j : ℕ) → k < 64 → IsLowest (bit_and word ((2 ^ 64 - 1) * 2 ^ k % 2 ^ 64)) j → k ≤ j
lowest_above word k j h low = elim (cases_lt j k) [
  | inl l ↦ absurd (zero≢one (sym (masked_below word k j l h) ∙ low.set))
  | inr l ↦ l
]

-- ---- the first word

place : (x : ℕ) → x / 64 * 64 + x % 64 ≡ x
place x = div-add-mod' x 64

has_word : (words : List ℕ) (y k : ℕ) → y / 64 ≡ k → has words y ≡ nat_eq (bit_at (slice_index_or words k 0) (y % 64)) 1
unfolding has
has_word words y k e = rw e refl

pub least_in_first : (words : List ℕ) (m j : ℕ) → m / 64 < length words → IsLowest (bit_and (slice_index_or words (m / 64) 0) ((2 ^ 64 - 1) * 2 ^ (m % 64) % 2 ^ 64)) j → IsLeastFrom words m (m / 64 * 64 + j)
least_in_first words m j h low =
    let k : m % 64 < 64 = mod_below m 64 (omega arith) in
    let l : m % 64 ≤ j = lowest_above (slice_index_or words (m / 64) 0) (m % 64) j k low in
    let p : m / 64 * 64 + m % 64 ≡ m = place m in
    let n : j < 64 = low.within in
    record {
      within = omega arith;
      above = omega arith;
      set = has-mul-add words (m / 64) j n ∙ ap (λ z. nat_eq z 1) (sym (masked_above (slice_index_or words (m / 64) 0) (m % 64) j l n) ∙ low.set);
      least = λ y a b. let d : y / 64 ≡ m / 64 = omega arith in let r : y / 64 * 64 + y % 64 ≡ y = place y in
          has_word words y (m / 64) d ∙ ap (λ z. nat_eq z 1) (sym (masked_above (slice_index_or words (m / 64) 0) (m % 64) (y % 64) (omega arith) (omega arith)) ∙ low.lower (y % 64) (omega arith));
    }

pub none_in_first : (words : List ℕ) (m : ℕ) → bit_and (slice_index_or words (m / 64) 0) ((2 ^ 64 - 1) * 2 ^ (m % 64) % 2 ^ 64) ≡ 0 → (y : ℕ) → m ≤ y → y < (m / 64 + 1) * 64 → has words y ≡ false
none_in_first words m e y a b =
    let p : m / 64 * 64 + m % 64 ≡ m = place m in
    let r : y / 64 * 64 + y % 64 ≡ y = place y in
    let d : y / 64 ≡ m / 64 = omega arith in
    has_word words y (m / 64) d ∙ ap (λ z. nat_eq z 1) (sym (masked_above (slice_index_or words (m / 64) 0) (m % 64) (y % 64) (omega arith) (omega arith)) ∙ ap (λ z. bit_at z (y % 64)) e ∙ bit_at-zero (y % 64))

-- ---- the later words

-- the words before place k have nothing from m on
abbrev pub NoneBefore : List ℕ → ℕ → ℕ → Type 0
NoneBefore words m k = (y : ℕ) → m ≤ y → y < k * 64 → has words y ≡ false

pub least_in_later : (words : List ℕ) (m k j : ℕ) → m / 64 < k → k < length words → NoneBefore words m k → IsLowest (slice_index_or words k 0) j → IsLeastFrom words m (k * 64 + j)
least_in_later words m k j h w none low =
    let n : j < 64 = low.within in
    record {
      within = omega arith;
      above = omega arith;
      set = has-mul-add words k j n ∙ ap (λ z. nat_eq z 1) low.set;
      least = λ y a b. elim (cases_lt y (k * 64)) [
        | inl l ↦ none y a l
        | inr l ↦ let d : y / 64 ≡ k = omega arith in let r : y / 64 * 64 + y % 64 ≡ y = place y in
            has_word words y k d ∙ ap (λ z. nat_eq z 1) (low.lower (y % 64) (omega arith))
      ];
    }

pub none_in_later : (words : List ℕ) (m k : ℕ) → NoneBefore words m k → slice_index_or words k 0 ≡ 0 → NoneBefore words m (k + 1)
none_in_later words m k none e y a b = elim (cases_lt y (k * 64)) [
  | inl l ↦ none y a l
  | inr l ↦ let d : y / 64 ≡ k = omega arith in has_word words y k d ∙ ap (λ z. nat_eq (bit_at z (y % 64)) 1) e ∙ ap (λ z. nat_eq z 1) (bit_at-zero (y % 64))
]

pub none_at_all : (words : List ℕ) (m k : ℕ) → NoneBefore words m k → length words ≤ k → (y : ℕ) → m ≤ y → has words y ≡ false
none_at_all words m k none h y a = elim (cases_lt y (k * 64)) [
  | inl l ↦ none y a l
  | inr l ↦ has_past words y (omega arith)
]

-- ---- in the list of members

filter-not_below-zero : (xs : List ℕ) → filter (not_below 0) xs ≡ xs
filter-not_below-zero [] = refl
filter-not_below-zero (x ∷ xs) = rw (le-ltb x 0 (omega arith), filter-not_below-zero xs) refl

pub least_from_is : (words : List ℕ) (m : ℕ) (r : Option ℕ) → length words ≤ 1024 → IsLeastFromIfAny words m r → r ≡ slice_get (filter (not_below m) (set_of (has words))) 0
unfolding set_of
least_from_is words m None few none =
    sym (ap (λ xs. slice_get xs 0) (filter-set (has words) (not_below m) ∙ set_of-none (λ x. has words x && not_below m x) (λ x h. elim (cases_lt x m) [
      | inl l ↦ rw (lt-ltb x m l) (and-false (has words x))
      | inr l ↦ rw (none x l) refl
    ])))
least_from_is words m (Some x) few is =
    sym (ap (λ xs. slice_get xs 0) (filter-set (has words) (not_below m))
    ∙ first-filter (λ x. has words x && not_below m x) x 0 limit (omega arith) (rw limit_is (omega (arith, is.within))) (rw (is.set, le-ltb x m is.above) refl)
    (λ y i j. elim (cases_lt y m) [
      | inl l ↦ rw (lt-ltb y m l) (and-false (has words y))
      | inr l ↦ rw (is.least y l j) refl
    ]))

pub least_is : (words : List ℕ) (r : Option ℕ) → length words ≤ 1024 → IsLeastFromIfAny words 0 r → r ≡ slice_get (set_of (has words)) 0
least_is words r few is = least_from_is words 0 r few is ∙ ap (λ xs. slice_get xs 0) (filter-not_below-zero (set_of (has words)))
