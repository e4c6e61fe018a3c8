-- Names, numbers and operations as atoms, and read from atoms.
use Rattle.std.proofs.Common.{◌≡◌, ◌≢◌, refl, sym, ◌∙◌, ap, ℕ, zero, suc, ◌^◌, ◌<◌, ◌≤◌, ◌==◌, ℤ, pos, negsuc, List, [], ◌∷◌, length, drop, get_or, nat_eq, Bool, true, false, ◌&&◌, ◌||◌, not, if◌then◌else◌, None, Some, arith, rules}
use Rattle.std.specs.Prelude.{nat_abs, nat_le, nat_lt, codes, decimal, slice_index}
use Rattle.std.specs.Fmt.{signed_decimal}
use Rattle.std.specs.List.{list_all, list_any, AllByRecursion}
use Rattle.std.proofs.lemmas.Bool.{and_parts, and_from}
use Rattle.std.proofs.lemmas.Bool.Decides.{nat_tests}
use Rattle.std.proofs.lemmas.Fmt.{decimal_nonempty, first_decimal, decimal_digit, length-decimal-le, digits_decimal, digits_value-decimal}
use Rattle.std.proofs.lemmas.Str.Parse.{IsNumeralModel, numerals_by_fold}
use Rattle.kts_base.specs.Names.{is_between, is_name, is_name_byte}
use Rattle.kts_text.specs.Bytes.{class}
use Rattle.kts_text.specs.Grammar.{IsAtom}
use Rattle.kts_text.specs.declared.class.Class.TheVariants.{Letter}
use Rattle.kts_syntax.specs.Heads.{keyword, operation_of}
use Rattle.kts_syntax.specs.Words.{is_text, is_letter, reserved, is_word, word_of, numeral_of, negative_of, number_of, is_like_number}
use Rattle.kts_base.specs.Numerals.{is_digit, begins, value_after, is_numeral}
use Rattle.kts_syntax.specs.declared.layout.Role.TheVariants.{Term}

-- ---- letters of atoms

abbrev IsLetter : ℕ → Type 0
IsLetter byte = class byte ≡ Letter

class_letter : (byte : ℕ) → 33 ≤ byte → byte ≤ 126 → byte ≢ 59 → byte ≢ 40 → byte ≢ 41 → IsLetter byte
unfolding class
class_letter byte low high a b c = grind (arith, nat_tests)

name_byte_letter : (byte : ℕ) → is_name_byte byte ≡ true → IsLetter byte
unfolding is_name_byte
name_byte_letter byte h = class_letter byte (grind (arith, nat_tests)) (grind (arith, nat_tests)) (grind (arith, nat_tests)) (grind (arith, nat_tests)) (grind (arith, nat_tests))

digit_letter : (byte : ℕ) → is_digit byte ≡ true → IsLetter byte
digit_letter byte h = class_letter byte (grind (arith, nat_tests)) (grind (arith, nat_tests)) (grind (arith, nat_tests)) (grind (arith, nat_tests)) (grind (arith, nat_tests))

all_letters : (test : ℕ → Bool) (bytes : List ℕ) → ((byte : ℕ) → test byte ≡ true → IsLetter byte) → list_all test bytes ≡ true → AllByRecursion IsLetter bytes
all_letters test [] each all = tt
all_letters test (byte ∷ bytes) each all =
    let both = and_parts (test byte) (list_all test bytes) all in (each byte both.0, all_letters test bytes each both.1)

-- ---- equal bytes

same_number : (x y : ℕ) → nat_eq x y ≡ true → x ≡ y
same_number x y e = grind (arith, nat_tests)

self_number : (x : ℕ) → nat_eq x x ≡ true
self_number x = grind (arith, nat_tests)

pub text_same : (a b : List ℕ) → is_text a b ≡ true → a ≡ b
text_same [] [] e = refl
text_same [] (y ∷ ys) e = absurd cc
text_same (x ∷ xs) [] e = absurd cc
text_same (x ∷ xs) (y ∷ ys) e =
    let both = and_parts (nat_eq x y) (is_text xs ys) e in
    ap (λ (n : ℕ). n ∷ xs) (same_number x y both.0) ∙ ap (λ (l : List ℕ). y ∷ l) (text_same xs ys both.1)

pub text_self : (a : List ℕ) → is_text a a ≡ true
text_self [] = refl
text_self (x ∷ xs) = and_from (nat_eq x x) (is_text xs xs) (self_number x) (text_self xs)

-- ---- numbers

own : IsNumeralModel (λ ds. list_all is_digit ds ≡ true) (value_after 0)
own = numerals_by_fold _ (search rules) value_after (search rules)

first_digit : (ds : List ℕ) → 0 < length ds → list_all is_digit ds ≡ true → (48 ≤ get_or ds 0 0) × (get_or ds 0 0 ≤ 57)
first_digit [] some all = absurd (omega arith)
first_digit (d ∷ ds) some all = let both = and_parts (is_digit d) (list_all is_digit ds) all in (low d both.0, high d both.0)
  where
    low : (d : ℕ) → is_digit d ≡ true → 48 ≤ d
    low d h = grind (arith, nat_tests)

    high : (d : ℕ) → is_digit d ≡ true → d ≤ 57
    high d h = grind (arith, nat_tests)

begins_from : (test : ℕ → Bool) (bytes : List ℕ) (b : Bool) → 0 < length bytes → test (get_or bytes 0 0) ≡ b → begins test bytes ≡ b
begins_from test [] b some h = absurd (omega arith)
begins_from test (x ∷ xs) b some h = ap (λ (c : Bool). c && test x) (positive (length xs)) ∙ h
  where
    positive : (n : ℕ) → nat_lt 0 (suc n) ≡ true
    positive n = grind (arith, nat_tests)

more_than : (a b : ℕ) → a < b → nat_lt a b ≡ true
more_than a b h = grind (arith, nat_tests)

or_left : (a b : Bool) → a ≡ true → (a || b) ≡ true
or_left true b h = refl
or_left false b h = absurd cc

-- a decimal number begins with no 0, or is 0
leading : (n : ℕ) → n ≤ 10 ^ 15 → (begins (λ digit. nat_lt 48 digit) (decimal n) || length (decimal n) == 1) ≡ true
leading zero small = rw (decimal_digit 0 (omega arith)) refl
leading (suc n) small =
    or_left (begins (λ digit. nat_lt 48 digit) (decimal (suc n))) (length (decimal (suc n)) == 1)
    (begins_from (λ digit. nat_lt 48 digit) (decimal (suc n)) true (decimal_nonempty (suc n) (omega arith)) (more_than 48 (get_or (decimal (suc n)) 0 0) (first_decimal (suc n) (omega arith) (omega arith))))

numeral_by : (n : ℕ) → list_all is_digit (decimal n) ≡ true → (begins (λ digit. nat_lt 48 digit) (decimal n) || length (decimal n) == 1) ≡ true → is_numeral (decimal n) ≡ true
unfolding is_numeral
numeral_by n all first = and_from (list_all is_digit (decimal n)) (begins (λ digit. nat_lt 48 digit) (decimal n) || length (decimal n) == 1) all first

module _ (n : ℕ) (small : n ≤ 10 ^ 15) where
  some_digits : 0 < length (decimal n)
  some_digits = decimal_nonempty n (omega arith)

  are_digits : list_all is_digit (decimal n) ≡ true
  are_digits = digits_decimal own n (omega arith)

  its_value : value_after 0 (decimal n) ≡ n
  its_value = digits_value-decimal own n (omega arith)

  few_digits : length (decimal n) ≤ 16
  few_digits = length-decimal-le 16 n (omega arith) (omega arith) (omega arith)

  decimal_numeral : is_numeral (decimal n) ≡ true
  decimal_numeral = numeral_by n are_digits (leading n small)

  pub numeral_of-decimal : numeral_of (decimal n) ≡ Some n
  unfolding numeral_of
  numeral_of-decimal = rw (decimal_numeral, its_value, low, bound) refl
    where
      low : nat_le 0 n ≡ true
      low = grind (arith, nat_tests)

      bound : nat_le n (10 ^ 15) ≡ true
      bound = grind (arith, nat_tests)

other_number : (a b : ℕ) → a ≢ b → (a == b) ≡ false
other_number a b h = grind (arith, nat_tests)

small_number : (n : ℕ) → nat_le n (10 ^ 15) ≡ true → n ≤ 10 ^ 15
small_number n h = grind (arith, nat_tests)

digit_test : (d : ℕ) → 48 ≤ d → d ≤ 57 → is_digit d ≡ true
digit_test d low high = grind (arith, nat_tests)

-- the number that its own text is
pub number_of-signed : (z : ℤ) → nat_le (nat_abs z) (10 ^ 15) ≡ true → number_of (signed_decimal z) ≡ Some z
unfolding number_of negative_of
number_of-signed (pos n) h =
    let small = small_number n h in
    let first = first_digit (decimal n) (some_digits n small) (are_digits n small) in
    let plain : begins (λ byte. byte == 45) (decimal n) ≡ false =
    begins_from (λ byte. byte == 45) (decimal n) false (some_digits n small) (other_number (get_or (decimal n) 0 0) 45 (omega (arith, first.0))) in
    rw (plain, numeral_of-decimal n small) refl
number_of-signed (negsuc n) h =
    let small = small_number (suc n) h in
    let ds = decimal (suc n) in
    let minus : begins (λ byte. byte == 45) (45 ∷ ds) ≡ true = begins_from (λ byte. byte == 45) (45 ∷ ds) true (omega arith) refl in
    let first : 48 < get_or ds 0 0 = first_decimal (suc n) (omega arith) (omega arith) in
    let plain : begins (λ digit. digit == 48) ds ≡ false =
    begins_from (λ digit. digit == 48) ds false (some_digits (suc n) small) (other_number (get_or ds 0 0) 48 (omega (arith, first))) in
    rw (minus, plain, numeral_of-decimal (suc n) small) refl

or_right : (a b : Bool) → b ≡ true → (a || b) ≡ true
or_right true b h = refl
or_right false b h = h

pub like_number-signed : (z : ℤ) → nat_le (nat_abs z) (10 ^ 15) ≡ true → is_like_number (signed_decimal z) ≡ true
unfolding is_like_number
like_number-signed (pos n) h =
    let small = small_number n h in
    let first = first_digit (decimal n) (some_digits n small) (are_digits n small) in
    or_left (begins is_digit (decimal n)) (begins (λ byte. byte == 45) (decimal n) && begins is_digit (drop 1 (decimal n)))
    (begins_from is_digit (decimal n) true (some_digits n small) (digit_test (get_or (decimal n) 0 0) first.0 first.1))
like_number-signed (negsuc n) h =
    let small = small_number (suc n) h in
    let ds = decimal (suc n) in
    let first = first_digit ds (some_digits (suc n) small) (are_digits (suc n) small) in
    or_right (begins is_digit (45 ∷ ds)) (begins (λ byte. byte == 45) (45 ∷ ds) && begins is_digit ds)
    (and_from (begins (λ byte. byte == 45) (45 ∷ ds)) (begins is_digit ds) (begins_from (λ byte. byte == 45) (45 ∷ ds) true (omega arith) refl)
    (begins_from is_digit ds true (some_digits (suc n) small) (digit_test (get_or ds 0 0) first.0 first.1)))

pub number_atom : (z : ℤ) → nat_le (nat_abs z) (10 ^ 15) ≡ true → IsAtom (signed_decimal z)
number_atom (pos n) h =
    let small = small_number n h in
    record { some = some_digits n small; few = omega (arith, few_digits n small); letters = all_letters is_digit (decimal n) digit_letter (are_digits n small) }
number_atom (negsuc n) h =
    let small = small_number (suc n) h in
    record {
      some = omega arith;
      few = omega (arith, few_digits (suc n) small);
      letters = (class_letter 45 (omega arith) (omega arith) (omega arith) (omega arith) (omega arith), all_letters is_digit (decimal (suc n)) digit_letter (are_digits (suc n) small));
    }

-- ---- names

record NameFacts (bytes : List ℕ) : Type 0 where
  some : 0 < length bytes
  few : length bytes ≤ 40
  name : list_all is_name_byte bytes ≡ true
  letter : is_letter (get_or bytes 0 0) ≡ true

between_low : (a b n : ℕ) → is_between a b n ≡ true → a ≤ n
between_low a b n h = grind (arith, nat_tests)

between_high : (a b n : ℕ) → is_between a b n ≡ true → n ≤ b
between_high a b n h = grind (arith, nat_tests)

begins_first : (test : ℕ → Bool) (bytes : List ℕ) → begins test bytes ≡ true → test (get_or bytes 0 0) ≡ true
begins_first test bytes h = (and_parts (nat_lt 0 (length bytes)) (test (slice_index bytes 0)) h).1

name_facts : (bytes : List ℕ) → is_word bytes ≡ true → NameFacts bytes
unfolding is_word is_name
name_facts bytes h =
    let three = and_parts (is_name bytes && begins is_letter bytes && not (list_any (λ byte. byte == 46) bytes)) (not (list_any (is_text bytes) reserved)) h in
    let two = and_parts (is_name bytes && begins is_letter bytes) (not (list_any (λ byte. byte == 46) bytes)) three.0 in
    let one = and_parts (is_name bytes) (begins is_letter bytes) two.0 in
    let parts = and_parts (is_between 1 40 (length bytes)) (list_all is_name_byte bytes) one.0 in
    record {
      some = between_low 1 40 (length bytes) parts.0;
      few = between_high 1 40 (length bytes) parts.0;
      name = parts.1;
      letter = begins_first is_letter bytes one.1;
    }

pub name_atom : (bytes : List ℕ) → is_word bytes ≡ true → IsAtom bytes
name_atom bytes h = let f = name_facts bytes h in record { some = f.some; few = f.few; letters = all_letters is_name_byte bytes name_byte_letter f.name }

no_digit : (b : ℕ) → is_letter b ≡ true → is_digit b ≡ false
no_digit b h = grind (arith, nat_tests)

no_minus : (b : ℕ) → is_letter b ≡ true → (b == 45) ≡ false
no_minus b h = grind (arith, nat_tests)

pub name_no_number : (bytes : List ℕ) → is_word bytes ≡ true → is_like_number bytes ≡ false
unfolding is_like_number
name_no_number bytes h =
    let f = name_facts bytes h in
    let plain : begins is_digit bytes ≡ false = begins_from is_digit bytes false f.some (no_digit (get_or bytes 0 0) f.letter) in
    let positive : begins (λ byte. byte == 45) bytes ≡ false = begins_from (λ byte. byte == 45) bytes false f.some (no_minus (get_or bytes 0 0) f.letter) in
    rw (plain, positive) refl

pub word_of-name : (bytes : List ℕ) → is_word bytes ≡ true → word_of bytes ≡ Some bytes
word_of-name bytes h = ap (λ (b : Bool). if b then Some bytes else None) h

-- a name is no other word
no_keyword : (word bytes : List ℕ) → is_word word ≡ false → is_word bytes ≡ true → is_text word bytes ≡ false
no_keyword word bytes other named = by (is_text word bytes) refl
  where
    by : (b : Bool) → is_text word bytes ≡ b → b ≡ false
    by false e = refl
    by true e = sym (ap is_word (text_same word bytes e) ∙ named) ∙ other

pub name_no_operation : (bytes : List ℕ) → is_word bytes ≡ true → operation_of Term bytes ≡ None
unfolding operation_of keyword is_word is_name is_name_byte
name_no_operation bytes h =
    rw (
      no_keyword (codes "+") bytes refl h,
      no_keyword (codes "-") bytes refl h,
      no_keyword (codes "*") bytes refl h,
      no_keyword (codes "min") bytes refl h,
      no_keyword (codes "max") bytes refl h,
      no_keyword (codes "sum") bytes refl h,
    ) refl
