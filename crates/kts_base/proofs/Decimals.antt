-- Numbers written in decimal, and read from words.
use Rattle.std.proofs.Common.{◌≡◌, sym, refl, ◌∙◌, ap, ℕ, zero, suc, ◌+◌, ◌-◌, ◌*◌, ◌/◌, ◌%◌, ◌^◌, ◌<◌, ◌≤◌, ◌==◌, List, [], ◌∷◌, ◌++◌, length, get_or, true, ◌&&◌, ◌||◌, nat_le, Some, None, cond, append-nil, append_assoc, arith, rules}
use Rattle.std.specs.Prelude.{decimal, nat_lt}
use Rattle.std.specs.List.{list_all}
use Rattle.std.proofs.lemmas.Bool.{and_parts}
use Rattle.std.proofs.lemmas.Bool.Decides.{nat_tests}
use Rattle.std.proofs.lemmas.Fmt.{decimal_digit, decimal_step_wide, decimal_nonempty, first_decimal, digits_decimal, digits_value-decimal}
use Rattle.std.proofs.lemmas.Option.{cond_some}
use Rattle.std.proofs.lemmas.Str.Parse.{IsNumeralModel, numerals_by_fold}
use Rattle.kts_base.specs.Numerals.{is_digit, is_numeral, begins, value_after, numeral_within, IsNumber}
use Rattle.kts_base.proofs.NumeralLemmas.{value_after_rises}

-- the first of digits, and the others
first_digit : (digit : ℕ) (rest : List ℕ) → list_all is_digit (digit ∷ rest) ≡ true → (48 ≤ digit) × (digit ≤ 57) × (list_all is_digit rest ≡ true)
first_digit digit rest h = grind (arith, nat_tests)

-- digits after those of a number that isn't 0
decimal-more : (value : ℕ) (digits : List ℕ) → 0 < value → list_all is_digit digits ≡ true → value_after value digits < 10 ^ 64 → decimal (value_after value digits) ≡ decimal value ++ digits
decimal-more value [] some all small = sym (append-nil (decimal value))
decimal-more value (digit ∷ digits) some all small =
    let bounds = first_digit digit digits all in
    let next : ℕ = value * 10 + (digit - 48) in
    let below : next < 10 ^ 64 = omega (arith, value_after_rises next digits) in
    let front : next / 10 ≡ value = omega arith in
    let last : 48 + next % 10 ≡ digit = omega arith in
    decimal-more next digits (omega arith) bounds.2 small
    ∙ ap (λ (l : List ℕ). l ++ digits) (decimal_step_wide next (omega arith) below ∙ ap (λ n. decimal n ++ ((48 + next % 10) ∷ [])) front ∙ ap (λ d. decimal value ++ (d ∷ [])) last)
    ∙ append_assoc (decimal value) (digit ∷ []) digits

-- one digit
decimal_one : (digit : ℕ) → 48 ≤ digit → digit ≤ 57 → decimal (0 * 10 + (digit - 48)) ≡ digit ∷ []
decimal_one digit low high =
    let same : 48 + (0 * 10 + (digit - 48)) ≡ digit = omega arith in
    decimal_digit (0 * 10 + (digit - 48)) (omega arith) ∙ ap (λ (d : ℕ). d ∷ []) same

-- digits of which the first isn't 0, or a digit alone
first_some : (digit next : ℕ) (rest : List ℕ) → (begins (λ d. nat_lt 48 d) (digit ∷ next ∷ rest) || length (digit ∷ next ∷ rest) == 1) ≡ true → 48 < digit
first_some digit next rest h = grind (arith, nat_tests)

-- a numeral is the decimal of its value
numeral_decimal : (word : List ℕ) → is_numeral word ≡ true → value_after 0 word < 10 ^ 64 → word ≡ decimal (value_after 0 word)
unfolding is_numeral
numeral_decimal [] h small = absurd cc
numeral_decimal (digit ∷ []) h small =
    let bounds = first_digit digit [] (and_parts _ _ h).0 in
    sym (decimal_one digit bounds.0 bounds.1)
numeral_decimal (digit ∷ next ∷ rest) h small =
    let parts = and_parts (list_all is_digit (digit ∷ next ∷ rest)) _ h in
    let bounds = first_digit digit (next ∷ rest) parts.0 in
    let some : 48 < digit = first_some digit next rest parts.1 in
    sym (decimal-more (0 * 10 + (digit - 48)) (next ∷ rest) (omega arith) bounds.2 small ∙ ap (λ (l : List ℕ). l ++ (next ∷ rest)) (decimal_one digit bounds.0 bounds.1))

-- `value_after` reads digits as the library does
own : IsNumeralModel (λ ds. list_all is_digit ds ≡ true) (value_after 0)
own = numerals_by_fold _ (search rules) value_after (search rules)

-- digits of which the first is more than 0
numeral_from : (bytes : List ℕ) → list_all is_digit bytes ≡ true → 0 < length bytes → 48 < get_or bytes 0 0 → is_numeral bytes ≡ true
unfolding is_numeral
numeral_from [] all some first = absurd (omega arith)
numeral_from (digit ∷ rest) all some first = grind (arith, nat_tests)

zero_numeral : is_numeral (48 ∷ []) ≡ true
unfolding is_numeral
zero_numeral = refl

-- the decimal of a number is a numeral
decimal_numeral : (n : ℕ) → n ≤ 10 ^ 18 → is_numeral (decimal n) ≡ true
decimal_numeral zero small = ap is_numeral (decimal_digit 0 (omega arith)) ∙ zero_numeral
decimal_numeral (suc n) small =
    numeral_from (decimal (suc n)) (digits_decimal own (suc n) (omega arith)) (decimal_nonempty (suc n) (omega arith)) (first_decimal (suc n) (omega arith) (omega arith))

module _ (low high : ℕ) (word : List ℕ) (n : ℕ) (small : high ≤ 10 ^ 18) where
  bounds_of : (value : ℕ) → (nat_le low value && nat_le value high) ≡ true → (low ≤ value) × (value ≤ high)
  bounds_of value h = grind (arith, nat_tests)

  bounds_from : low ≤ n → n ≤ high → (nat_le low n && nat_le n high) ≡ true
  bounds_from a b = grind (arith, nat_tests)

  -- a number that is read is the one that the word writes
  pub number_told : numeral_within low high word ≡ Some n → IsNumber low high word n
  number_told e =
      let read = cond_some _ (value_after 0 word) n e in
      let parts = and_parts (is_numeral word) _ read.0 in
      let bounds = bounds_of (value_after 0 word) parts.1 in
      record {
        written = numeral_decimal word parts.0 (omega arith) ∙ ap decimal read.1;
        least = omega arith;
        most = omega arith;
      }

  -- a number is read from the word that writes it
  pub number_read : IsNumber low high word n → numeral_within low high word ≡ Some n
  number_read told =
      let below : n ≤ 10 ^ 18 = omega (arith, told.most) in
      let value : value_after 0 word ≡ n = ap (value_after 0) told.written ∙ digits_value-decimal own n (omega arith) in
      let numeral : is_numeral word ≡ true = ap is_numeral told.written ∙ decimal_numeral n below in
      ap (λ t. cond (t && (nat_le low (value_after 0 word) && nat_le (value_after 0 word) high)) (Some (value_after 0 word)) None) numeral
      ∙ ap (λ v. cond (nat_le low v && nat_le v high) (Some v) None) value
      ∙ ap (λ t. cond t (Some n) None) (bounds_from told.least told.most)
