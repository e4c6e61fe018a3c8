-- The number of digits, one digit after another.
use Rattle.std.proofs.Common.{◌≡◌, ◌∙◌, sym, refl, ap, ℕ, ◌+◌, ◌-◌, ◌*◌, ◌<◌, ◌≤◌, List, [], ◌∷◌, length, drop, get_or, true, arith, add-one}
use Rattle.std.proofs.lemmas.Bool.Decides.{nat_tests}
use Rattle.std.proofs.Math.Seq.{drop-cons}
use Rattle.std.specs.List.{list_all}
use Rattle.kts_base.specs.Numerals.{is_digit, is_numeral, value_after}

-- more digits make no smaller number
pub value_after_rises : (value : ℕ) (digits : List ℕ) → value ≤ value_after value digits
value_after_rises value [] = omega arith
value_after_rises value (digit ∷ digits) = omega (arith, value_after_rises (value * 10 + (digit - 48)) digits)

-- what is left at a digit
pub digits_here : (digits : List ℕ) (i : ℕ) → i < length digits → drop i digits ≡ get_or digits i 0 ∷ drop (i + 1) digits
digits_here digits i h = drop-cons digits i 0 h ∙ rw add-one refl

digit_bounds : (digit : ℕ) (rest : List ℕ) → list_all is_digit (digit ∷ rest) ≡ true → (48 ≤ digit) × (digit ≤ 57) × (list_all is_digit rest ≡ true)
digit_bounds digit rest h = grind (arith, nat_tests)

-- a digit, and digits after it
pub all_digits_here : (digits : List ℕ) (i : ℕ) → i < length digits → list_all is_digit (drop i digits) ≡ true → (48 ≤ get_or digits i 0) × (get_or digits i 0 ≤ 57) × (list_all is_digit (drop (i + 1) digits) ≡ true)
all_digits_here digits i h all = digit_bounds (get_or digits i 0) (drop (i + 1) digits) (ap (list_all is_digit) (sym (digits_here digits i h)) ∙ all)

pub value_here : (digits : List ℕ) (i value : ℕ) → i < length digits → value_after value (drop i digits) ≡ value_after (value * 10 + (get_or digits i 0 - 48)) (drop (i + 1) digits)
value_here digits i value h = ap (value_after value) (digits_here digits i h)

pub numeral_digits : (bytes : List ℕ) → true ≡ is_numeral bytes → list_all is_digit bytes ≡ true
unfolding is_numeral
numeral_digits bytes h = grind (arith, nat_tests)
