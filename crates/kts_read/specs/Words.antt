-- What a word says: a name, or a number.
use Rattle.std.specs.Prelude.{ℕ, suc, ℤ, pos, neg_ℤ, nat_abs, int_le, int_lt, min, ◌==◌, nat_eq, List, [], drop, get_or, Bool, ◌&&◌, if◌then◌else◌, Option, Some, None, option_map}
use Rattle.std.specs.Cmp.Lexicographic.{pointwise}
use Rattle.kts_base.specs.Limits.{most_number, most_instructions}
use Rattle.kts_base.specs.Numerals.{begins, numeral_within}
use Rattle.kts_spec.specs.Names.{is_language_name}

-- the same bytes
abbrev pub is_text : List ℕ → List ℕ → Bool
is_text = pointwise nat_eq

-- the word of this number, counted from 0; past the last one nothing
abbrev pub word : List (List ℕ) → ℕ → List ℕ
word words k = get_or words k []

-- the name that a word is
abbrev pub name_in : List ℕ → Option (List ℕ)
name_in word = if is_language_name word then Some word else None

-- the number less than 0 of which these are the digits
unfoldable pub negative_of : List ℕ → Option ℤ
negative_of digits = option_map (λ n. neg_ℤ (pos n)) (numeral_within 1 most_number digits)

-- the number that a word is: a numeral, with a `-` before it where it is less than 0
unfoldable pub number_of : List ℕ → Option ℤ
number_of word = if begins (λ byte. byte == 45) word then negative_of (drop 1 word) else option_map pos (numeral_within 0 most_number word)

-- the number where it is at least the first and below the second
abbrev pub within : ℕ → ℕ → Option ℤ → Option ℕ
within low end None = None
within low end (Some z) = if int_le (pos low) z && int_lt z (pos end) then Some (nat_abs z) else None

-- the whole number that a word is, where it is at least the first and below the second
unfoldable pub whole_in : ℕ → ℕ → List ℕ → Option ℕ
whole_in low end word = within low end (number_of word)

-- the number of something of which there are so many; no file has more of anything than instructions
abbrev pub number_below : ℕ → List ℕ → Option ℕ
number_below count word = whole_in 0 (min count (suc most_instructions)) word
