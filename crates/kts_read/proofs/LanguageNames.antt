-- Names of the language are names.
use Rattle.std.proofs.Common.{◌≡◌, refl, ℕ, suc, nat_eq, List, [], ◌∷◌, length, Bool, true, false, not, ◌&&◌, ◌||◌, nat_le, nat_lt, Some, arith}
use Rattle.std.specs.List.{list_all}
use Rattle.std.proofs.lemmas.Bool.{and_parts, and_from}
use Rattle.std.proofs.lemmas.Bool.Decides.{nat_tests}
use Rattle.kts_base.specs.Limits.{most_name_bytes}
use Rattle.kts_base.specs.Names.{is_between, is_name, is_name_byte, name_of}
use Rattle.kts_base.specs.Numerals.{begins}
use Rattle.kts_spec.specs.Names.{is_letter, is_language_byte, begins_with_letter, is_among, reserved_words, is_language_name}

pub begins_same : (bytes : List ℕ) → begins is_letter bytes ≡ begins_with_letter bytes
begins_same [] = refl
begins_same (b ∷ bytes) = same (length bytes) (is_letter b)
  where
    same : (n : ℕ) (t : Bool) → (nat_lt 0 (suc n) && t) ≡ t
    same n t = grind (arith, nat_tests)

or_more : (a b : Bool) → a ≡ true → (a || b) ≡ true
or_more true b h = refl
or_more false b h = absurd cc

byte_named : (b : ℕ) → is_language_byte b ≡ true → is_name_byte b ≡ true
unfolding is_name_byte
byte_named b h = or_more (is_language_byte b) (nat_eq b 46) h

bytes_named : (bytes : List ℕ) → list_all is_language_byte bytes ≡ true → list_all is_name_byte bytes ≡ true
bytes_named [] h = refl
bytes_named (b ∷ bytes) h =
    let both = and_parts (is_language_byte b) (list_all is_language_byte bytes) h in
    and_from (is_name_byte b) (list_all is_name_byte bytes) (byte_named b both.0) (bytes_named bytes both.1)

some_byte : (bytes : List ℕ) → begins_with_letter bytes ≡ true → nat_le 1 (length bytes) ≡ true
some_byte [] h = absurd cc
some_byte (b ∷ bytes) h = grind (arith, nat_tests)

-- what a name of the language is made of
pub record IsMade (name : List ℕ) : Type 0 where
  pub begun : begins_with_letter name ≡ true
  pub bytes : list_all is_language_byte name ≡ true
  pub few : nat_le (length name) most_name_bytes ≡ true

pub made : (bytes : List ℕ) → is_language_name bytes ≡ true → IsMade bytes
made bytes h =
    let three = and_parts (begins_with_letter bytes && list_all is_language_byte bytes && nat_le (length bytes) most_name_bytes) (not (is_among reserved_words bytes)) h in
    let two = and_parts (begins_with_letter bytes && list_all is_language_byte bytes) (nat_le (length bytes) most_name_bytes) three.0 in
    let one = and_parts (begins_with_letter bytes) (list_all is_language_byte bytes) two.0 in
    record { begun = one.0; bytes = one.1; few = two.1 }

is_named : (bytes : List ℕ) → is_language_name bytes ≡ true → is_name bytes ≡ true
unfolding is_name
is_named bytes h =
    let m = made bytes h in
    and_from (is_between 1 most_name_bytes (length bytes)) (list_all is_name_byte bytes)
    (and_from (nat_le 1 (length bytes)) (nat_le (length bytes) most_name_bytes) (some_byte bytes m.begun) m.few) (bytes_named bytes m.bytes)

-- it is the name that its bytes make
pub language_named : (bytes : List ℕ) → is_language_name bytes ≡ true → name_of bytes ≡ Some bytes
language_named bytes h = rw (is_named bytes h) refl
