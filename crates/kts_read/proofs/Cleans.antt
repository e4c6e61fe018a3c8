-- Words that a line may have, joined and split again.
use Rattle.std.proofs.Common.{◌≡◌, ◌≢◌, refl, ℕ, suc, ℤ, pos, negsuc, ◌<◌, ◌≤◌, List, [], ◌∷◌, ◌++◌, length, Bool, true, false, arith}
use Rattle.std.specs.Prelude.{decimal}
use Rattle.std.specs.Fmt.{signed_decimal}
use Rattle.std.specs.List.{list_all, list_any, AllByRecursion}
use Rattle.std.proofs.lemmas.Bool.{and_parts, and_from}
use Rattle.std.proofs.lemmas.Bool.Decides.{nat_tests}
use Rattle.kts_base.specs.Limits.{most_number}
use Rattle.kts_base.specs.Names.{is_between}
use Rattle.kts_base.specs.Numerals.{is_digit}
use Rattle.kts_spec.specs.Names.{is_language_byte, begins_with_letter, is_language_name}
use Rattle.kts_read.specs.Lines.{line_of, is_line, words_in, is_empty}
use Rattle.kts_read.proofs.InstrLaws.{IsClean}
use Rattle.kts_read.proofs.Joins.{Without, split_joined}
use Rattle.kts_read.proofs.LanguageNames.{made}
use Rattle.kts_read.proofs.NumberTexts.{IsSmall, some_digits, are_digits, small_number}

abbrev is_visible : ℕ → Bool
is_visible byte = is_between 33 126 byte

-- words of letters, at least one
abbrev pub AreClean : List (List ℕ) → Type 0
AreClean words = AllByRecursion IsClean words

letter_other : (b at : ℕ) → at ≤ 32 → is_visible b ≡ true → b ≢ at
letter_other b at low h e = let f : 33 ≤ b = grind (arith, nat_tests) in omega arith

letters_without : (at : ℕ) (bytes : List ℕ) → at ≤ 32 → list_all is_visible bytes ≡ true → Without at bytes
letters_without at [] low h = tt
letters_without at (b ∷ bs) low h = let both = and_parts (is_visible b) (list_all is_visible bs) h in (letter_other b at low both.0, letters_without at bs low both.1)

clean_without : (at : ℕ) (words : List (List ℕ)) → at ≤ 32 → AreClean words → AllByRecursion (Without at) words
clean_without at [] low h = tt
clean_without at (w ∷ ws) low h = (letters_without at w low h.0.letters, clean_without at ws low h.1)

pub words_again : (w : List ℕ) (ws : List (List ℕ)) → AreClean (w ∷ ws) → words_in (line_of (w ∷ ws)) ≡ w ∷ ws
words_again w ws h = split_joined 32 w ws (clean_without 32 (w ∷ ws) (omega arith) h)

-- a byte of printed text
abbrev is_print : ℕ → Bool
is_print byte = is_between 32 126 byte

letter_print : (b : ℕ) → is_visible b ≡ true → is_print b ≡ true
letter_print b h = grind (arith, nat_tests)

letters_print : (bytes rest : List ℕ) → list_all is_visible bytes ≡ true → list_all is_print rest ≡ true → list_all is_print (bytes ++ rest) ≡ true
letters_print [] rest h e = e
letters_print (b ∷ bs) rest h e = let both = and_parts (is_visible b) (list_all is_visible bs) h in and_from (is_print b) (list_all is_print (bs ++ rest)) (letter_print b both.0) (letters_print bs rest both.1 e)

only_letters : (bytes : List ℕ) → list_all is_visible bytes ≡ true → list_all is_print bytes ≡ true
only_letters [] h = refl
only_letters (b ∷ bs) h = let both = and_parts (is_visible b) (list_all is_visible bs) h in and_from (is_print b) (list_all is_print bs) (letter_print b both.0) (only_letters bs both.1)

line_prints : (w : List ℕ) (ws : List (List ℕ)) → AreClean (w ∷ ws) → list_all is_print (line_of (w ∷ ws)) ≡ true
line_prints w [] h = only_letters w h.0.letters
line_prints w (x ∷ xs) h = letters_print w (32 ∷ line_of (x ∷ xs)) h.0.letters (line_prints x xs h.1)

none_empty : (words : List (List ℕ)) → AreClean words → list_any is_empty words ≡ false
none_empty [] h = refl
none_empty ([] ∷ ws) h = absurd (omega (arith, h.0.some))
none_empty ((b ∷ bs) ∷ ws) h = none_empty ws h.1

pub clean_line : (w : List ℕ) (ws : List (List ℕ)) → AreClean (w ∷ ws) → is_line (line_of (w ∷ ws)) ≡ true
clean_line w ws h = and_from _ _ (line_prints w ws h) (rw (words_again w ws h, none_empty (w ∷ ws) h) refl)

print_without : (bytes : List ℕ) → list_all is_print bytes ≡ true → Without 10 bytes
print_without [] h = tt
print_without (b ∷ bs) h = let both = and_parts (is_print b) (list_all is_print bs) h in (other b both.0, print_without bs both.1)
  where
    other : (b : ℕ) → is_print b ≡ true → b ≢ 10
    other b h e = let f : 32 ≤ b = grind (arith, nat_tests) in omega arith

pub no_end_of_line : (w : List ℕ) (ws : List (List ℕ)) → AreClean (w ∷ ws) → Without 10 (line_of (w ∷ ws))
no_end_of_line w ws h = print_without (line_of (w ∷ ws)) (line_prints w ws h)

-- ---- names and numbers are such words

pub all_of : (p q : ℕ → Bool) (bytes : List ℕ) → ((b : ℕ) → p b ≡ true → q b ≡ true) → list_all p bytes ≡ true → list_all q bytes ≡ true
all_of p q [] each h = refl
all_of p q (b ∷ bs) each h = let both = and_parts (p b) (list_all p bs) h in and_from (q b) (list_all q bs) (each b both.0) (all_of p q bs each both.1)

name_visible : (b : ℕ) → is_language_byte b ≡ true → is_visible b ≡ true
name_visible b h = grind (arith, nat_tests)

some_byte : (bytes : List ℕ) → begins_with_letter bytes ≡ true → 0 < length bytes
some_byte [] h = absurd cc
some_byte (b ∷ bytes) h = omega arith

pub name_clean : (name : List ℕ) → is_language_name name ≡ true → IsClean name
name_clean name h = let m = made name h in record { some = some_byte name m.begun; letters = all_of is_language_byte is_visible name name_visible m.bytes }

digit_visible : (b : ℕ) → is_digit b ≡ true → is_visible b ≡ true
digit_visible b h = grind (arith, nat_tests)

pub decimal_clean : (n : ℕ) → n ≤ most_number → IsClean (decimal n)
decimal_clean n small = record { some = some_digits n small; letters = all_of is_digit is_visible (decimal n) digit_visible (are_digits n small) }

pub signed_clean : (z : ℤ) → IsSmall z → IsClean (signed_decimal z)
signed_clean (pos n) h = decimal_clean n (small_number n h)
signed_clean (negsuc n) h =
    let d = decimal_clean (suc n) (small_number (suc n) h) in
    record { some = omega arith; letters = and_from (is_visible 45) _ refl d.letters }

pub literal : (word : List ℕ) → 0 < length word → list_all (λ byte. is_between 33 126 byte) word ≡ true → IsClean word
literal word some letters = record { some = some; letters = letters }
