-- A number has one text.
use Rattle.std.proofs.Common.{◌≡◌, ◌≢◌, refl, ◌∙◌, ap, ℕ, zero, suc, ◌<◌, ◌≤◌, ◌==◌, ℤ, pos, negsuc, List, [], ◌∷◌, length, drop, nat_eq, Bool, true, false, ◌&&◌, if◌then◌else◌, Option, None, Some, option_map, arith, rules}
use Rattle.std.specs.Prelude.{nat_abs, nat_le, nat_lt, decimal, neg_ℤ}
use Rattle.std.specs.Fmt.{signed_decimal}
use Rattle.std.specs.List.{list_all}
use Rattle.std.proofs.lemmas.Bool.{and_parts, and_from}
use Rattle.std.proofs.lemmas.Bool.Decides.{nat_tests}
use Rattle.std.proofs.lemmas.Fmt.{decimal_nonempty, digits_decimal}
use Rattle.std.proofs.lemmas.Str.Parse.{IsNumeralModel, numerals_by_fold}
use Rattle.kts_base.specs.Limits.{most_number}
use Rattle.kts_base.specs.Numerals.{is_digit, begins, value_after, numeral_within, IsNumber}
use Rattle.kts_base.proofs.Decimals.{number_told, number_read}
use Rattle.kts_read.specs.Words.{is_text, negative_of, number_of}

-- ---- equal bytes

same_number : (x y : ℕ) → nat_eq x y ≡ true → x ≡ y
same_number x y e = grind (arith, nat_tests)

self_number : (x : ℕ) → nat_eq x x ≡ true
self_number x = grind (arith, nat_tests)

pub text_same : (a b : List ℕ) → is_text a b ≡ true → a ≡ b
text_same [] [] e = refl
text_same [] (y ∷ ys) e = absurd cc
text_same (x ∷ xs) [] e = absurd cc
text_same (x ∷ xs) (y ∷ ys) e =
    let both = and_parts (nat_eq x y) (is_text xs ys) e in
    ap (λ (n : ℕ). n ∷ xs) (same_number x y both.0) ∙ ap (λ (l : List ℕ). y ∷ l) (text_same xs ys both.1)

pub text_self : (a : List ℕ) → is_text a a ≡ true
text_self [] = refl
text_self (x ∷ xs) = and_from (nat_eq x x) (is_text xs xs) (self_number x) (text_self xs)

-- ---- digits

own : IsNumeralModel (λ ds. list_all is_digit ds ≡ true) (value_after 0)
own = numerals_by_fold _ (search rules) value_after (search rules)

-- no more than this away from 0
abbrev pub IsSmall : ℤ → Type 0
IsSmall z = nat_le (nat_abs z) most_number ≡ true

module _ (n : ℕ) (small : n ≤ most_number) where
  pub some_digits : 0 < length (decimal n)
  some_digits = decimal_nonempty n (omega arith)

  pub are_digits : list_all is_digit (decimal n) ≡ true
  are_digits = digits_decimal own n (omega arith)

low_digit : (d : ℕ) → is_digit d ≡ true → 48 ≤ d
low_digit d h = grind (arith, nat_tests)

other_number : (a b : ℕ) → a ≢ b → (a == b) ≡ false
other_number a b h = grind (arith, nat_tests)

begins_none : (test : ℕ → Bool) (n : ℕ) (b : Bool) → b ≡ false → (nat_lt 0 (suc n) && b) ≡ false
begins_none test n b h = grind (arith, nat_tests)

-- digits begin with no sign
no_sign : (ds : List ℕ) → list_all is_digit ds ≡ true → begins (λ byte. byte == 45) ds ≡ false
no_sign [] h = refl
no_sign (d ∷ ds) h =
    let low = low_digit d (and_parts (is_digit d) (list_all is_digit ds) h).0 in
    begins_none (λ byte. byte == 45) (length ds) (d == 45) (other_number d 45 (λ e. absurd (omega (arith, low, e))))

a_sign : (ds : List ℕ) → begins (λ byte. byte == 45) (45 ∷ ds) ≡ true
a_sign ds = positive (length ds)
  where
    positive : (n : ℕ) → (nat_lt 0 (suc n) && true) ≡ true
    positive n = grind (arith, nat_tests)

pub small_number : (n : ℕ) → nat_le n most_number ≡ true → n ≤ most_number
small_number n h = grind (arith, nat_tests)

pub le_small : (n : ℕ) → n ≤ most_number → nat_le n most_number ≡ true
le_small n h = grind (arith, nat_tests)

-- ---- the number that its own text is

pub number_of-signed : (z : ℤ) → IsSmall z → number_of (signed_decimal z) ≡ Some z
unfolding number_of negative_of
number_of-signed (pos n) h =
    let small = small_number n h in
    let read = number_read 0 most_number (decimal n) n (omega arith) (record { written = refl; least = omega arith; most = small }) in
    rw (no_sign (decimal n) (are_digits n small), read) refl
number_of-signed (negsuc n) h =
    let small = small_number (suc n) h in
    let read = number_read 1 most_number (decimal (suc n)) (suc n) (omega arith) (record { written = refl; least = omega arith; most = small }) in
    rw (a_sign (decimal (suc n)), read) refl

-- ---- what is read is the number's own text

mapped : {X Y : Type 0} (f : X → Y) (o : Option X) (y : Y) → option_map f o ≡ Some y → (x : X) × (o ≡ Some x) × (f x ≡ y)
mapped f None y e = absurd cc
mapped f (Some x) y e = (x, refl, cc)

whole_text : (bytes : List ℕ) (z : ℤ) → option_map pos (numeral_within 0 most_number bytes) ≡ Some z → (bytes ≡ signed_decimal z) × IsSmall z
whole_text bytes z e =
    let m = mapped pos (numeral_within 0 most_number bytes) z e in
    let t = number_told 0 most_number bytes m.0 (omega arith) m.1 in
    rw (← m.2) (t.written, le_small m.0 t.most)

negative_text : (bytes : List ℕ) (z : ℤ) → negative_of bytes ≡ Some z → (45 ∷ bytes ≡ signed_decimal z) × IsSmall z
unfolding negative_of
negative_text bytes z e =
    let m = mapped (λ n. neg_ℤ (pos n)) (numeral_within 1 most_number bytes) z e in
    by_number m.0 (number_told 1 most_number bytes m.0 (omega arith) m.1) m.2
  where
    by_number : (n : ℕ) → IsNumber 1 most_number bytes n → neg_ℤ (pos n) ≡ z → (45 ∷ bytes ≡ signed_decimal z) × IsSmall z
    by_number zero t s = absurd (omega (arith, t.least))
    by_number (suc n) t s = rw (← s) (ap (λ (l : List ℕ). 45 ∷ l) t.written, le_small (suc n) t.most)

minus_first : (bytes : List ℕ) → begins (λ byte. byte == 45) bytes ≡ true → bytes ≡ 45 ∷ drop 1 bytes
minus_first [] e = absurd cc
minus_first (b ∷ bs) e = let s : b ≡ 45 = grind (arith, nat_tests) in rw s refl

pub number_text : (bytes : List ℕ) (z : ℤ) → number_of bytes ≡ Some z → (bytes ≡ signed_decimal z) × IsSmall z
unfolding number_of
number_text bytes z e = by_test (begins (λ byte. byte == 45) bytes) refl e
  where
    by_test : (t : Bool) → begins (λ byte. byte == 45) bytes ≡ t → (if t then negative_of (drop 1 bytes) else option_map pos (numeral_within 0 most_number bytes)) ≡ Some z → (bytes ≡ signed_decimal z) × IsSmall z
    by_test true f s = let n = negative_text (drop 1 bytes) z s in (minus_first bytes f ∙ n.0, n.1)
    by_test false f s = whole_text bytes z s
