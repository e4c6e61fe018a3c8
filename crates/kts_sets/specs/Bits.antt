-- Sets as the bits of words of 64 bits.
use Rattle.std.specs.Prelude.{◌≡◌, ℕ, ◌+◌, ◌*◌, ◌/◌, ◌%◌, ◌^◌, ◌<◌, ◌≤◌, Bool, true, false, List, length, map, nat_eq, slice_index_or, Option, MatchOption}
use Rattle.std.specs.List.{range_with_len}
use Rattle.std.specs.Int.{bit_at}
use Rattle.kts_sets.specs.Sets.{elem}
use lib.Lanes.{mask_l}

-- at most 1,024 words of 64 bits
pub record AreWords (w : ℕ) (words : List ℕ) : Type 0 where
  pub few : w ≤ 1024
  pub long : length words ≡ w
  pub fit : (k : ℕ) → slice_index_or words k 0 < 2 ^ 64

-- whether the words have the bit of a member
unfoldable pub has : List ℕ → ℕ → Bool
has words m = nat_eq (bit_at (slice_index_or words (m / 64) 0) (m % 64)) 1

-- the word of a set at a place
unfoldable pub word_of : List ℕ → ℕ → ℕ
word_of a at = mask_l (map (λ j. elem (at * 64 + j) a) (range_with_len 0 64))

-- the first w words of a set
unfoldable pub words_of : ℕ → List ℕ → List ℕ
words_of w a = map (word_of a) (range_with_len 0 w)

-- j is the place of the lowest bit of the word
pub record IsLowest (word j : ℕ) : Type 0 where
  pub within : j < 64
  pub set : bit_at word j ≡ 1
  pub lower : (i : ℕ) → i < j → bit_at word i ≡ 0

-- x is the least number from m on that the words have
pub record IsLeastFrom (words : List ℕ) (m x : ℕ) : Type 0 where
  pub within : x < 64 * length words
  pub above : m ≤ x
  pub set : has words x ≡ true
  pub least : (y : ℕ) → m ≤ y → y < x → has words y ≡ false

-- the least number from m on that the words have, or none where they have none
abbrev pub IsLeastFromIfAny : List ℕ → ℕ → Option ℕ → Type 0
IsLeastFromIfAny words m r = MatchOption r ((y : ℕ) → m ≤ y → has words y ≡ false) (λ x. IsLeastFrom words m x)
