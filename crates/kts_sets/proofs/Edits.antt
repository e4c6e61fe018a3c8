-- A member read, put in and taken out.
use Rattle.std.proofs.Common.{◌≡◌, refl, sym, ◌∙◌, ap, ℕ, ◌*◌, ◌/◌, ◌%◌, ◌^◌, ◌<◌, ◌≤◌, inl, inr, Bool, true, false, ◌&&◌, ◌||◌, List, [], ◌∷◌, length, nat_eq, slice_index_or, slice_set, replicate, bit_and, bit_or, arith, w64}
use Rattle.std.specs.List.{filter}
use Rattle.std.specs.Int.{bit_at, bit_not}
use Rattle.std.proofs.lemmas.Nat.Bits.{bit_at_set_same, bit_at_set_other, bit_at_clear_same, bit_at_clear_other, shr_and_one}
use Rattle.std.proofs.lemmas.Nat.{mod_below, div-add-mod'}
use Rattle.std.proofs.lemmas.Bool.{eq-eqb, ne_eqb, cases_lt, cases_eq}
use Rattle.std.proofs.lemmas.List.{get_or-set_same, get_or-set_other, length-replicate}
use Rattle.std.proofs.Math.Bool.{and-false, and-true, or-false}
use Rattle.kts_sets.specs.Sets.{limit, limit_is, set_of, elem, other}
use Rattle.kts_sets.specs.SetLaws.{set_ext, filter-set, elem-set, elem-set_out}
use Rattle.kts_sets.specs.Bits.{has}
use Rattle.kts_sets.proofs.Pointwise.{has_past, has-zeros}
use Rattle.kts_sets.proofs.SimpleSets.{set_of-one}

-- ---- read

pub elem-read : (w : ℕ) (words : List ℕ) (m : ℕ) → w ≤ 1024 → m / 64 < w → nat_eq (bit_and (slice_index_or words (m / 64) 0 / 2 ^ (m % 64)) 1) 1 ≡ elem m (set_of (has words))
unfolding has
elem-read w words m few h = ap (λ n. nat_eq n 1) (shr_and_one (slice_index_or words (m / 64) 0) (m % 64)) ∙ sym (elem-set (has words) m (rw limit_is (omega arith)))

pub elem_past : (words : List ℕ) (m : ℕ) → length words ≤ m / 64 → elem m (set_of (has words)) ≡ false
elem_past words m h = elim (cases_lt m limit) [
  | inl l ↦ elem-set (has words) m l ∙ has_past words m h
  | inr l ↦ elem-set_out (has words) m l
]

-- ---- put in

same_place : (x m : ℕ) → x / 64 ≡ m / 64 → x % 64 ≡ m % 64 → x ≡ m
same_place x m d r = sym (div-add-mod' x 64) ∙ rw (d, r) (div-add-mod' m 64)

has-put : (words : List ℕ) (m x : ℕ) → m / 64 < length words →
    has (slice_set words (m / 64) (bit_or (slice_index_or words (m / 64) 0) (1 * 2 ^ (m % 64) % 2 ^ 64))) x ≡ (nat_eq x m || has words x)
unfolding has
has-put words m x h = elim (cases_eq (x / 64) (m / 64)) [
  | inl d ↦ elim (cases_eq (x % 64) (m % 64)) [
    | inl r ↦ rw (
      eq-eqb x m (same_place x m d r),
      d,
      r,
      get_or-set_same words (m / 64) (bit_or (slice_index_or words (m / 64) 0) (1 * 2 ^ (m % 64) % 2 ^ 64)) 0 h,
      bit_at_set_same w64 (slice_index_or words (m / 64) 0) (m % 64) (mod_below m 64 (omega arith)),
    ) refl
    | inr r ↦ rw (
      ne_eqb x m (λ e. r (ap (λ z. z % 64) e)),
      d,
      get_or-set_same words (m / 64) (bit_or (slice_index_or words (m / 64) 0) (1 * 2 ^ (m % 64) % 2 ^ 64)) 0 h,
      bit_at_set_other w64 (slice_index_or words (m / 64) 0) (m % 64) (mod_below m 64 (omega arith)) (x % 64) r,
    ) refl
  ]
  | inr d ↦ rw (ne_eqb x m (λ e. d (ap (λ z. z / 64) e)), get_or-set_other words (m / 64) (x / 64) (bit_or (slice_index_or words (m / 64) 0) (1 * 2 ^ (m % 64) % 2 ^ 64)) 0 d) refl
]

pub set_of-put : (w m : ℕ) → w ≤ 1024 → m / 64 < w →
    set_of (has (slice_set (replicate w 0) (m / 64) (bit_or (slice_index_or (replicate w 0) (m / 64) 0) (1 * 2 ^ (m % 64) % 2 ^ 64)))) ≡ m ∷ []
set_of-put w m few h =
    set_ext _ (λ x. nat_eq x m) (λ x l. has-put (replicate w 0) m x (rw (length-replicate {A = ℕ} w 0) h) ∙ ap (λ b. nat_eq x m || b) (has-zeros w x) ∙ or-false (nat_eq x m))
    ∙ set_of-one m (rw limit_is (omega arith))

-- ---- taken out

has-take : (words : List ℕ) (m x : ℕ) → m / 64 < length words →
    has (slice_set words (m / 64) (bit_and (slice_index_or words (m / 64) 0) (bit_not w64 (1 * 2 ^ (m % 64) % 2 ^ 64)))) x ≡ (has words x && other m x)
unfolding has
has-take words m x h = elim (cases_eq (x / 64) (m / 64)) [
  | inl d ↦ elim (cases_eq (x % 64) (m % 64)) [
    | inl r ↦ rw (
      eq-eqb x m (same_place x m d r),
      d,
      r,
      get_or-set_same words (m / 64) (bit_and (slice_index_or words (m / 64) 0) (bit_not w64 (1 * 2 ^ (m % 64) % 2 ^ 64))) 0 h,
      bit_at_clear_same w64 (slice_index_or words (m / 64) 0) (m % 64) (mod_below m 64 (omega arith)),
    ) (sym (and-false (nat_eq (bit_at (slice_index_or words (m / 64) 0) (m % 64)) 1)))
    | inr r ↦ rw (
      ne_eqb x m (λ e. r (ap (λ z. z % 64) e)),
      d,
      get_or-set_same words (m / 64) (bit_and (slice_index_or words (m / 64) 0) (bit_not w64 (1 * 2 ^ (m % 64) % 2 ^ 64))) 0 h,
      bit_at_clear_other w64 (slice_index_or words (m / 64) 0) (m % 64) (mod_below m 64 (omega arith)) (x % 64) (mod_below x 64 (omega arith)) r,
    ) (sym (and-true (nat_eq (bit_at (slice_index_or words (m / 64) 0) (x % 64)) 1)))
  ]
  | inr d ↦ rw (ne_eqb x m (λ e. d (ap (λ z. z / 64) e)), get_or-set_other words (m / 64) (x / 64) (bit_and (slice_index_or words (m / 64) 0) (bit_not w64 (1 * 2 ^ (m % 64) % 2 ^ 64))) 0 d)
      (sym (and-true (nat_eq (bit_at (slice_index_or words (x / 64) 0) (x % 64)) 1)))
]

pub set_of-take : (words : List ℕ) (m : ℕ) → m / 64 < length words →
    set_of (has (slice_set words (m / 64) (bit_and (slice_index_or words (m / 64) 0) (bit_not w64 (1 * 2 ^ (m % 64) % 2 ^ 64))))) ≡ filter (other m) (set_of (has words))
set_of-take words m h = set_ext _ (λ x. has words x && other m x) (λ x l. has-take words m x h) ∙ sym (filter-set (has words) (other m))

-- what is past the words is not among their members
pub set_of-take_past : (words : List ℕ) (m : ℕ) → length words ≤ m / 64 → set_of (has words) ≡ filter (other m) (set_of (has words))
set_of-take_past words m h =
    set_ext (has words) (λ x. has words x && other m x) (λ x l. elim (cases_eq x m) [
      | inl e ↦ let n : has words x ≡ false = ap (has words) e ∙ has_past words m h in rw n refl
      | inr e ↦ rw (ne_eqb x m e) (sym (and-true (has words x)))
    ]) ∙ sym (filter-set (has words) (other m))
