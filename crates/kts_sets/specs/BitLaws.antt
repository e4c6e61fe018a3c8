-- A set gives its words back.
use Rattle.std.proofs.Common.{◌≡◌, refl, sym, ◌∙◌, ap, subst, ℕ, ◌+◌, ◌*◌, ◌^◌, ◌<◌, Bool, true, false, cond, List, map, nat_eq, slice_index_or, arith}
use Rattle.std.specs.List.{range_with_len}
use Rattle.std.specs.Int.{bit_at}
use lib.Lanes.{mask_l}
use Rattle.std.proofs.lemmas.Nat.Bits.{bit_at-lt, same_from_bits_below}
use Rattle.std.proofs.lemmas.Nat.{div-mul-add, mod-mul-add}
use Rattle.std.proofs.lemmas.Simd.{bit_mask_l, mask_l-lt}
use Rattle.std.proofs.lemmas.List.FromFn.{fill_by_all, get_or-map-range_with_len, length-map-range_with_len}
use Rattle.kts_sets.specs.Sets.{limit_is, set_of, elem}
use Rattle.kts_sets.specs.SetLaws.{elem-set}
use Rattle.kts_sets.specs.Bits.{AreWords, has, word_of, words_of}

-- the bit of a member that is given by its word and its place there
pub has-mul-add : (words : List ℕ) (at j : ℕ) → j < 64 → has words (at * 64 + j) ≡ nat_eq (bit_at (slice_index_or words at 0) j) 1
unfolding has
has-mul-add words at j h = rw (div-mul-add at 64 j h, mod-mul-add at 64 j h) refl

bit_from : (b : Bool) → nat_eq (cond b 1 0) 1 ≡ b
bit_from true = refl
bit_from false = refl

bit_at-word_of : (a : List ℕ) (at j : ℕ) → j < 64 → nat_eq (bit_at (word_of a at) j) 1 ≡ elem (at * 64 + j) a
unfolding word_of
bit_at-word_of a at j h =
    ap (λ n. nat_eq n 1) (bit_mask_l (map (λ j. elem (at * 64 + j) a) (range_with_len 0 64)) j)
    ∙ bit_from (slice_index_or (map (λ j. elem (at * 64 + j) a) (range_with_len 0 64)) j false)
    ∙ get_or-map-range_with_len (λ j. elem (at * 64 + j) a) 0 64 j j false h (omega arith)

word_of-lt : (a : List ℕ) (at : ℕ) → word_of a at < 2 ^ 64
unfolding word_of
word_of-lt a at =
    subst (λ n. mask_l (map (λ j. elem (at * 64 + j) a) (range_with_len 0 64)) < 2 ^ n) (length-map-range_with_len (λ j. elem (at * 64 + j) a) 0 64)
    (mask_l-lt (map (λ j. elem (at * 64 + j) a) (range_with_len 0 64)))

same_bit : (x y : ℕ) → x < 2 → y < 2 → nat_eq x 1 ≡ nat_eq y 1 → x ≡ y
same_bit x y h k e = grind arith

word_again : (words : List ℕ) (at : ℕ) → at < 1024 → slice_index_or words at 0 < 2 ^ 64 → word_of (set_of (has words)) at ≡ slice_index_or words at 0
word_again words at few fit = same_from_bits_below 64 _ _ (word_of-lt (set_of (has words)) at) fit (λ j h.
    same_bit _ _ (bit_at-lt (word_of (set_of (has words)) at) j) (bit_at-lt (slice_index_or words at 0) j)
    (bit_at-word_of (set_of (has words)) at j h ∙ elem-set (has words) (at * 64 + j) (rw limit_is (omega arith)) ∙ has-mul-add words at j h))

-- words are those of the set that they hold
pub words_again : (w : ℕ) (words : List ℕ) → AreWords w words → words_of w (set_of (has words)) ≡ words
unfolding words_of
words_again w words are =
    let same : (k : ℕ) → k < w → slice_index_or words k 0 ≡ word_of (set_of (has words)) k = λ k h. sym (word_again words k (omega (arith, are.few)) (are.fit k)) in
    sym (fill_by_all (word_of (set_of (has words))) words w 0 are.long same)
