-- Names and numbers are read exactly where the grammar has them.
use Rattle.std.proofs.Common.{◌≡◌, ◌≢◌, refl, sym, ◌∙◌, ap, subst, ℕ, zero, suc, ◌+◌, ◌-◌, ◌<◌, ◌≤◌, ◌==◌, ℤ, pos, neg_ℤ, List, [], ◌∷◌, ◌++◌, length, drop, get_or, nat_eq, Bool, true, false, ◌&&◌, ◌||◌, not, if◌then◌else◌, Option, None, Some, option_map, arith}
use Rattle.std.specs.Prelude.{nat_abs, nat_le, nat_lt, decimal, Contains}
use Rattle.std.specs.List.{list_all, list_any, AllByRecursion}
use Rattle.std.proofs.lemmas.Bool.{and_parts, and_from}
use Rattle.std.proofs.lemmas.Bool.Decides.{nat_tests}
use Rattle.std.proofs.lemmas.List.Sums.{AllPass-from_list_all}
use Rattle.std.proofs.lemmas.List.Elements.{All-contains, Contains-get_or, Contains-append_left, Contains-append_right}
use Rattle.std.proofs.lemmas.Fmt.{decimal_digit}
use Rattle.kts_base.specs.Limits.{most_name_bytes, most_number}
use Rattle.kts_base.specs.Names.{is_between, is_name, is_name_byte}
use Rattle.kts_base.specs.Numerals.{begins}
use Rattle.kts_base.proofs.Decimals.{number_told}
use Rattle.kts_base.proofs.Orders.{nat_le_yes, yes_nat_le}
use Rattle.kts_syntax.specs.FormsOf.{letters, name_characters, IsName, name, IsSignedNumber}
use Rattle.kts_syntax.specs.Words.{is_text, is_letter, reserved, is_word, numeral_of, negative_of, number_of}
use Rattle.kts_syntax.proofs.Inversions.{same_some}
use Rattle.kts_syntax.proofs.WordLemmas.{text_same, text_self, number_of-signed}

between_if : (a b n : ℕ) → is_between a b n ≡ true → (a ≤ n) × (n ≤ b)
between_if a b n h = let both = and_parts (nat_le a n) (nat_le n b) h in (nat_le_yes a n both.0, nat_le_yes n b both.1)

between_then : (a b n : ℕ) → a ≤ n → n ≤ b → is_between a b n ≡ true
between_then a b n low high = and_from (nat_le a n) (nat_le n b) (yes_nat_le a n low) (yes_nat_le n b high)

-- ---- bytes of names

-- so many numbers from one on
sequence : ℕ → ℕ → List ℕ
sequence low zero = []
sequence low (suc n) = low ∷ sequence (suc low) n

length-sequence : (low n : ℕ) → length (sequence low n) ≡ n
unfolding sequence
length-sequence low zero = refl
length-sequence low (suc n) = ap suc (length-sequence (suc low) n)

sequence_at : (low n i : ℕ) → i < n → get_or (sequence low n) i 0 ≡ low + i
unfolding sequence
sequence_at low zero i h = absurd (omega arith)
sequence_at low (suc n) zero h = omega arith
sequence_at low (suc n) (suc i) h = sequence_at (suc low) n i (omega arith) ∙ omega arith

in_sequence : (low n byte : ℕ) → low ≤ byte → byte < low + n → Contains (sequence low n) byte
in_sequence low n byte above below =
    let i : ℕ = byte - low in
    let size = length-sequence low n in
    subst (Contains (sequence low n)) (sequence_at low n i (omega arith) ∙ omega arith) (Contains-get_or (sequence low n) i 0 (omega arith))

letters_are : sequence 97 26 ++ sequence 65 26 ≡ letters
unfolding letters sequence
letters_are = refl

name_characters_are : letters ++ (sequence 48 10 ++ 95 ∷ 45 ∷ []) ≡ name_characters
unfolding name_characters sequence
name_characters_are = refl

letter_if : (byte : ℕ) → is_letter byte ≡ true → Contains letters byte
letter_if byte h = subst (λ (l : List ℕ). Contains l byte) letters_are (by (is_between 97 122 byte) refl h)
  where
    by : (t : Bool) → is_between 97 122 byte ≡ t → (t || is_between 65 90 byte) ≡ true → Contains (sequence 97 26 ++ sequence 65 26) byte
    by true is h = let both = between_if 97 122 byte is in Contains-append_left (sequence 97 26) (sequence 65 26) byte (in_sequence 97 26 byte both.0 (omega (arith, both.1)))
    by false is h = let both = between_if 65 90 byte h in Contains-append_right (sequence 97 26) (sequence 65 26) byte (in_sequence 65 26 byte both.0 (omega (arith, both.1)))

-- what holds of each of a list
each_of : (test : ℕ → Bool) (bytes : List ℕ) (byte : ℕ) → list_all test bytes ≡ true → Contains bytes byte → test byte ≡ true
each_of test bytes byte all there = All-contains (λ byte. test byte ≡ true) bytes byte (AllPass-from_list_all test bytes all) there

letter_then : (byte : ℕ) → Contains letters byte → is_letter byte ≡ true
unfolding letters
letter_then byte there = each_of is_letter letters byte refl there

name_byte_if : (byte : ℕ) → is_name_byte byte ≡ true → (byte == 46) ≡ false → Contains name_characters byte
unfolding is_name_byte
name_byte_if byte h dot = subst (λ (l : List ℕ). Contains l byte) name_characters_are (by (is_letter byte) (is_between 48 57 byte) (nat_eq byte 95) (nat_eq byte 45) refl refl refl refl)
  where
    others : List ℕ
    others = sequence 48 10 ++ 95 ∷ 45 ∷ []

    by : (l d u m : Bool) → is_letter byte ≡ l → is_between 48 57 byte ≡ d → nat_eq byte 95 ≡ u → nat_eq byte 45 ≡ m → Contains (letters ++ others) byte
    by true d u m p q r s = Contains-append_left letters others byte (letter_if byte p)
    by false true u m p q r s =
        let both = between_if 48 57 byte q in
        Contains-append_right letters others byte (Contains-append_left (sequence 48 10) (95 ∷ 45 ∷ []) byte (in_sequence 48 10 byte both.0 (omega (arith, both.1))))
    by false false true m p q r s =
        let same : 95 ≡ byte = grind (arith, nat_tests) in
        Contains-append_right letters others byte (Contains-append_right (sequence 48 10) (95 ∷ 45 ∷ []) byte (subst (Contains (95 ∷ 45 ∷ [])) same (0, omega arith, refl)))
    by false false false true p q r s =
        let same : 45 ≡ byte = grind (arith, nat_tests) in
        Contains-append_right letters others byte (Contains-append_right (sequence 48 10) (95 ∷ 45 ∷ []) byte (subst (Contains (95 ∷ 45 ∷ [])) same (1, omega arith, refl)))
    by false false false false p q r s = absurd (grind (arith, nat_tests))

name_byte_then : (byte : ℕ) → Contains name_characters byte → (is_name_byte byte ≡ true) × ((byte == 46) ≡ false)
unfolding name_characters letters is_name_byte
name_byte_then byte there = (each_of is_name_byte name_characters byte refl there, other (byte == 46) (each_of (λ b. not (b == 46)) name_characters byte refl there))
  where
    other : (t : Bool) → not t ≡ true → t ≡ false
    other true h = absurd cc
    other false h = refl

-- a letter may stand in a name
in_name : (byte : ℕ) → Contains letters byte → Contains name_characters byte
unfolding name_characters
in_name byte there = Contains-append_left letters _ byte there

name_bytes_if : (bytes : List ℕ) → list_all is_name_byte bytes ≡ true → not (list_any (λ byte. byte == 46) bytes) ≡ true → AllByRecursion (Contains name_characters) bytes
name_bytes_if [] all plain = tt
name_bytes_if (byte ∷ bytes) all plain = by (byte == 46) refl (name_bytes_if bytes (and_parts (is_name_byte byte) (list_all is_name_byte bytes) all).1) plain
  where
    by : (t : Bool) → (byte == 46) ≡ t → (not (list_any (λ byte. byte == 46) bytes) ≡ true → AllByRecursion (Contains name_characters) bytes) → not (t || list_any (λ byte. byte == 46) bytes) ≡ true
        → AllByRecursion (Contains name_characters) (byte ∷ bytes)
    by true is more plain = absurd cc
    by false is more plain = (name_byte_if byte (and_parts (is_name_byte byte) (list_all is_name_byte bytes) all).0 is, more plain)

name_bytes_then : (bytes : List ℕ) → AllByRecursion (Contains name_characters) bytes → (list_all is_name_byte bytes ≡ true) × (not (list_any (λ byte. byte == 46) bytes) ≡ true)
name_bytes_then [] all = (refl, refl)
name_bytes_then (byte ∷ bytes) all =
    let one = name_byte_then byte all.0 in
    let more = name_bytes_then bytes all.1 in
    (rw one.0 more.0, rw one.1 more.1)

-- ---- names

unlike_if : (bytes : List ℕ) (words : List (List ℕ)) → not (list_any (is_text bytes) words) ≡ true → AllByRecursion (λ word. word ≢ bytes) words
unlike_if bytes [] h = tt
unlike_if bytes (word ∷ words) h = by (is_text bytes word) refl (unlike_if bytes words) h
  where
    other : word ≡ bytes → is_text bytes word ≡ false → ⊥
    other same is = let yes : is_text bytes word ≡ true = subst (λ (w : List ℕ). is_text bytes w ≡ true) (sym same) (text_self bytes) in cc

    by : (t : Bool) → is_text bytes word ≡ t → (not (list_any (is_text bytes) words) ≡ true → AllByRecursion (λ word. word ≢ bytes) words) → not (t || list_any (is_text bytes) words) ≡ true
        → AllByRecursion (λ word. word ≢ bytes) (word ∷ words)
    by true is more h = absurd cc
    by false is more h = (λ same. other same is, more h)

unlike_then : (bytes : List ℕ) (words : List (List ℕ)) → AllByRecursion (λ word. word ≢ bytes) words → not (list_any (is_text bytes) words) ≡ true
unlike_then bytes [] h = refl
unlike_then bytes (word ∷ words) h = by (is_text bytes word) refl (unlike_then bytes words h.1)
  where
    by : (t : Bool) → is_text bytes word ≡ t → not (list_any (is_text bytes) words) ≡ true → not (t || list_any (is_text bytes) words) ≡ true
    by true is more = absurd (h.0 (sym (text_same bytes word is)))
    by false is more = more

pub name_if : (bytes : List ℕ) → is_word bytes ≡ true → IsName bytes
unfolding is_word is_name
name_if [] h = absurd cc
name_if (first ∷ others) h =
    let bytes = first ∷ others in
    let three = and_parts (is_name bytes && begins is_letter bytes && not (list_any (λ byte. byte == 46) bytes)) (not (list_any (is_text bytes) reserved)) h in
    let two = and_parts (is_name bytes && begins is_letter bytes) (not (list_any (λ byte. byte == 46) bytes)) three.0 in
    let one = and_parts (is_name bytes) (begins is_letter bytes) two.0 in
    let parts = and_parts (is_between 1 most_name_bytes (length bytes)) (list_all is_name_byte bytes) one.0 in
    let first_is = letter_if first (and_parts (nat_lt 0 (length bytes)) (is_letter first) one.1).1 in
    let each = name_bytes_if bytes parts.1 two.1 in
    name first_is each.1 (between_if 1 most_name_bytes (length bytes) parts.0).1 (unlike_if bytes reserved three.1)

pub name_then : {bytes : List ℕ} → IsName bytes → is_word bytes ≡ true
unfolding is_word is_name
name_then (name {first = first} {others = others} begin each few free) =
    let bytes = first ∷ others in
    let all = name_bytes_then bytes (in_name first begin, each) in
    let some : is_between 1 most_name_bytes (length bytes) ≡ true = between_then 1 most_name_bytes (length bytes) (omega arith) few in
    let starts : nat_lt 0 (length bytes) ≡ true = grind (arith, nat_tests) in
    rw (some, all.0, starts, letter_then first begin, all.1, unlike_then bytes reserved free) refl

-- ---- numbers

minus_first : (bytes : List ℕ) → begins (λ byte. byte == 45) bytes ≡ true → bytes ≡ 45 ∷ drop 1 bytes
minus_first [] h = absurd cc
minus_first (byte ∷ bytes) h = let same : byte ≡ 45 = grind (arith, nat_tests) in rw same refl

some_map : {A B : Type 0} (f : A → B) (o : Option A) (b : B) → option_map f o ≡ Some b → (a : A) × (o ≡ Some a) × (f a ≡ b)
some_map f None b e = absurd cc
some_map f (Some a) b e = (a, refl, same_some (f a) b e)

zero_digits : begins (λ digit. digit == 48) (decimal 0) ≡ true
zero_digits = rw (decimal_digit 0 (omega arith)) refl

negative_is : (n : ℕ) → begins (λ digit. digit == 48) (decimal n) ≡ false → n ≤ most_number → IsSignedNumber (45 ∷ decimal n) (neg_ℤ (pos n))
negative_is zero first few = absurd (let yes = zero_digits in cc)
negative_is (suc n) first few = record { written = refl; small = few }

pub number_if : (bytes : List ℕ) (n : ℤ) → number_of bytes ≡ Some n → IsSignedNumber bytes n
unfolding number_of negative_of numeral_of
number_if bytes n e = by (begins (λ byte. byte == 45) bytes) (begins (λ digit. digit == 48) (drop 1 bytes)) refl refl e
  where
    by : (a b : Bool) → begins (λ byte. byte == 45) bytes ≡ a → begins (λ digit. digit == 48) (drop 1 bytes) ≡ b
        → (if a then (if b then None else option_map (λ n. neg_ℤ (pos n)) (numeral_of (drop 1 bytes))) else option_map pos (numeral_of bytes)) ≡ Some n → IsSignedNumber bytes n
    by true true p q e = absurd cc
    by true false p q e =
        let found = some_map (λ n. neg_ℤ (pos n)) (numeral_of (drop 1 bytes)) n e in
        let told = number_told 0 most_number (drop 1 bytes) found.0 (omega arith) found.1 in
        let is = negative_is found.0 (subst (λ (ds : List ℕ). begins (λ digit. digit == 48) ds ≡ false) told.written q) told.most in
        subst (λ (z : ℤ). IsSignedNumber bytes z) found.2
        (subst (λ (bs : List ℕ). IsSignedNumber bs (neg_ℤ (pos found.0))) (sym (minus_first bytes p ∙ ap (λ (ds : List ℕ). 45 ∷ ds) told.written)) is)
    by false b p q e =
        let found = some_map pos (numeral_of bytes) n e in
        let told = number_told 0 most_number bytes found.0 (omega arith) found.1 in
        subst (λ (z : ℤ). IsSignedNumber bytes z) found.2 (record { written = told.written; small = told.most })

pub number_then : (bytes : List ℕ) (n : ℤ) → IsSignedNumber bytes n → number_of bytes ≡ Some n
number_then bytes n is = ap number_of is.written ∙ number_of-signed n (yes_nat_le (nat_abs n) most_number is.small)
