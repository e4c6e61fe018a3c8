-- How many members there are.
use Rattle.std.proofs.Common.{◌≡◌, refl, sym, ◌∙◌, ap, subst, ℕ, suc, zero, ◌+◌, ◌*◌, ◌-◌, ◌^◌, ◌<◌, ◌≤◌, cond, false, List, ◌∷◌, ◌++◌, length, map, nat_eq, slice_index_or, take, append-nil, length-append, arith}
use Rattle.std.specs.List.{range_with_len, filter, sum_by}
use Rattle.std.specs.Int.{bit_at}
use Rattle.std.specs.Int.RustNames.{count_ones}
use lib.Lanes.{mask_l}
use Rattle.std.proofs.lemmas.Simd.{bit_mask_l, mask_l-lt, ones-mask_l}
use Rattle.std.proofs.lemmas.Nat.Bits.{bit_at-lt, same_from_bits_below}
use Rattle.std.proofs.lemmas.List.Sums.{length-filter, sum_by_more}
use Rattle.std.proofs.lemmas.List.Elements.{filter-append}
use Rattle.std.proofs.lemmas.List.{take_all}
use Rattle.std.proofs.lemmas.List.FromFn.{get_or-map-range_with_len, length-map-range_with_len}
use Rattle.kts_sets.specs.Sets.{limit, limit_is, set_of}
use Rattle.kts_sets.specs.Bits.{has}
use Rattle.kts_sets.specs.BitLaws.{has-mul-add}
use Rattle.kts_sets.proofs.Pointwise.{has_past}
use Rattle.kts_sets.proofs.SimpleSets.{filter-none}

range-+ : (a m n : ℕ) → range_with_len a (m + n) ≡ range_with_len a m ++ range_with_len (a + m) n
range-+ a zero n = ap (λ z. range_with_len a z) (omega arith) ∙ ap (λ z. range_with_len z n) (omega arith)
range-+ a (suc m) n =
    let e : suc m + n ≡ suc (m + n) = omega arith in
    let f : a + 1 + m ≡ a + suc m = omega arith in
    rw e (ap (λ xs. a ∷ xs) (range-+ (a + 1) m n ∙ ap (λ z. range_with_len (a + 1) m ++ range_with_len z n) f))

bit_again : (x : ℕ) → x < 2 → cond (nat_eq x 1) 1 0 ≡ x
bit_again zero h = refl
bit_again (suc zero) h = refl
bit_again (suc (suc x)) h = absurd (omega arith)

block_word : (words : List ℕ) (k : ℕ) → slice_index_or words k 0 < 2 ^ 64 → mask_l (map (has words) (range_with_len (k * 64) 64)) ≡ slice_index_or words k 0
block_word words k fit = same_from_bits_below 64 _ _
    (subst (λ n. mask_l (map (has words) (range_with_len (k * 64) 64)) < 2 ^ n) (length-map-range_with_len (has words) (k * 64) 64) (mask_l-lt (map (has words) (range_with_len (k * 64) 64))))
    fit
    (λ j h. bit_mask_l (map (has words) (range_with_len (k * 64) 64)) j
    ∙ ap (λ b. cond b 1 0) (get_or-map-range_with_len (has words) (k * 64) 64 j (k * 64 + j) false h refl ∙ has-mul-add words k j h)
    ∙ bit_again (bit_at (slice_index_or words k 0) j) (bit_at-lt (slice_index_or words k 0) j))

block_count : (words : List ℕ) (k : ℕ) → slice_index_or words k 0 < 2 ^ 64 → length (filter (has words) (range_with_len (k * 64) 64)) ≡ count_ones (slice_index_or words k 0)
block_count words k fit =
    length-filter (has words) (range_with_len (k * 64) 64) ∙ sym (ones-mask_l (has words) (range_with_len (k * 64) 64)) ∙ ap count_ones (block_word words k fit)

blocks_count : (words : List ℕ) (n : ℕ) → n ≤ length words → ((k : ℕ) → slice_index_or words k 0 < 2 ^ 64) → length (filter (has words) (range_with_len 0 (n * 64))) ≡ sum_by count_ones (take n words)
blocks_count words zero h fit = refl
blocks_count words (suc n) h fit =
    let e : suc n * 64 ≡ n * 64 + 64 = omega arith in
    let f : suc n ≡ n + 1 = omega arith in
    ap (λ z. length (filter (has words) (range_with_len 0 z))) e
    ∙ ap (λ xs. length (filter (has words) xs)) (range-+ 0 (n * 64) 64)
    ∙ ap length (filter-append (has words) (range_with_len 0 (n * 64)) (range_with_len (0 + n * 64) 64))
    ∙ length-append (filter (has words) (range_with_len 0 (n * 64))) (filter (has words) (range_with_len (0 + n * 64) 64))
    ∙ ap (λ z. z + length (filter (has words) (range_with_len (0 + n * 64) 64))) (blocks_count words n (omega arith) fit)
    ∙ ap (λ z. sum_by count_ones (take n words) + z) (ap (λ z. length (filter (has words) (range_with_len z 64))) (omega arith) ∙ block_count words n (fit n))
    ∙ sym (sum_by_more count_ones words n 0 (omega arith))
    ∙ ap (λ z. sum_by count_ones (take z words)) (sym f)

-- the members are the ones of the words
pub length-set_of : (words : List ℕ) → length words ≤ 1024 → ((k : ℕ) → slice_index_or words k 0 < 2 ^ 64) → length (set_of (has words)) ≡ sum_by count_ones words
unfolding set_of
length-set_of words few fit =
    let e : limit ≡ length words * 64 + (limit - length words * 64) = omega (arith, limit_is) in
    ap (λ z. length (filter (has words) (range_with_len 0 z))) e
    ∙ ap (λ xs. length (filter (has words) xs)) (range-+ 0 (length words * 64) (limit - length words * 64))
    ∙ ap length (filter-append (has words) (range_with_len 0 (length words * 64)) (range_with_len (0 + length words * 64) (limit - length words * 64)))
    ∙ ap (λ xs. length (filter (has words) (range_with_len 0 (length words * 64)) ++ xs)) (filter-none (has words) (0 + length words * 64) (limit - length words * 64) (λ m l r. has_past words m (omega arith)))
    ∙ ap length (append-nil (filter (has words) (range_with_len 0 (length words * 64))))
    ∙ blocks_count words (length words) (omega arith) fit
    ∙ ap (sum_by count_ones) (take_all (length words) words (omega arith))
