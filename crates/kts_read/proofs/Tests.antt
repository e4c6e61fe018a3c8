-- Tests, results and numbers, as the laws of lines use them.
use Rattle.std.proofs.Common.{◌≡◌, refl, ℕ, ℤ, pos, negsuc, suc, ◌<◌, ◌≤◌, ◌==◌, List, [], ◌∷◌, length, Bool, true, false, not, ◌&&◌, if◌then◌else◌, Option, None, Some, Result, Ok, Err, min, arith}
use Rattle.std.specs.Prelude.{decimal, nat_le, nat_lt, nat_eq, int_le, int_lt}
use Rattle.std.proofs.lemmas.Bool.{and_parts}
use Rattle.std.proofs.lemmas.Bool.Decides.{nat_tests}
use Rattle.std.proofs.lemmas.Int.{ints}
use Rattle.kts_base.specs.Limits.{most_number, most_instructions}
use Rattle.kts_base.specs.Names.{is_between}
use Rattle.kts_base.specs.Reads.{and_then}
use Rattle.kts_spec.specs.Names.{is_language_name}
use Rattle.kts_read.specs.Words.{word, name_in, number_of, within, whole_in, number_below}
use Rattle.kts_read.specs.Faults.{at_line}
use Rattle.kts_read.specs.declared.fault.CodeFault.{CodeFault}
use Rattle.kts_read.specs.declared.fault.CodeKind.{CodeKind}
use Rattle.kts_read.proofs.NumberTexts.{number_text, number_of-signed, le_small}

-- ---- tests and results

pub if_ok : {X F : Type 0} (t : Bool) (r : Result X F) (fault : F) (y : X) → (if t then r else Err fault) ≡ Ok y → (t ≡ true) × (r ≡ Ok y)
if_ok true r fault y e = (refl, e)
if_ok false r fault y e = absurd cc

pub else_ok : {X F : Type 0} (t : Bool) (r : Result X F) (fault : F) (y : X) → (if t then Err fault else r) ≡ Ok y → (t ≡ false) × (r ≡ Ok y)
else_ok true r fault y e = absurd cc
else_ok false r fault y e = (refl, e)

abbrev pub accepted : {X : Type 0} → X → Result X CodeKind
accepted x = Ok x

pub ok_same : {X : Type 0} (x y : X) → accepted x ≡ Ok y → x ≡ y
ok_same x y e = cc

abbrev pub taken : {X : Type 0} → X → Result X CodeFault
taken x = Ok x

pub taken_same : {X : Type 0} (x y : X) → taken x ≡ Ok y → x ≡ y
taken_same x y e = cc

pub then_ok : {X Y F : Type 0} (r : Result X F) (f : X → Result Y F) (y : Y) → and_then r f ≡ Ok y → (x : X) × (r ≡ Ok x) × (f x ≡ Ok y)
then_ok (Ok x) f y e = (x, refl, e)
then_ok (Err fault) f y e = absurd cc

pub ok_at : {X : Type 0} (at : ℕ) (r : Result X CodeKind) (x : X) → at_line at r ≡ Ok x → r ≡ Ok x
ok_at at (Ok y) x e = cc
ok_at at (Err kind) x e = absurd cc

pub test_of : {X : Type 0} (t : Bool) (x y z : X) (P : Type 0) → (if t then x else y) ≡ z → (t ≡ true → x ≡ z → P) → (t ≡ false → y ≡ z → P) → P
test_of true x y z P e go stay = go refl e
test_of false x y z P e go stay = stay refl e

pub same_length : (a b : ℕ) → (a == b) ≡ true → a ≡ b
same_length a b e = grind (arith, nat_tests)

pub not_yes : (t : Bool) → not t ≡ true → t ≡ false
not_yes true h = absurd cc
not_yes false h = refl

pub yes_not : (t : Bool) → t ≡ false → not t ≡ true
yes_not true h = absurd cc
yes_not false h = refl

-- ---- words

pub one_word : (words : List (List ℕ)) → length words ≡ 1 → words ≡ word words 0 ∷ []
one_word [] e = absurd (omega arith)
one_word (a ∷ []) e = refl
one_word (a ∷ b ∷ ws) e = absurd (omega arith)

pub two_words : (words : List (List ℕ)) → length words ≡ 2 → words ≡ word words 0 ∷ word words 1 ∷ []
two_words [] e = absurd (omega arith)
two_words (a ∷ []) e = absurd (omega arith)
two_words (a ∷ b ∷ []) e = refl
two_words (a ∷ b ∷ c ∷ ws) e = absurd (omega arith)

pub name_found : (bytes name : List ℕ) → name_in bytes ≡ Some name → (bytes ≡ name) × (is_language_name name ≡ true)
name_found bytes name e = by_test (is_language_name bytes) refl e
  where
    by_test : (t : Bool) → is_language_name bytes ≡ t → (if t then Some bytes else None) ≡ Some name → (bytes ≡ name) × (is_language_name name ≡ true)
    by_test true f s = let same : bytes ≡ name = cc in (same, rw same at f)
    by_test false f s = absurd cc

-- ---- numbers

pub at_least_pos : (low m : ℕ) → int_le (pos low) (pos m) ≡ true → low ≤ m
at_least_pos low m h = grind (arith, nat_tests)

pub below_pos : (m end : ℕ) → int_lt (pos m) (pos end) ≡ true → m < end
below_pos m end h = grind (arith, nat_tests)

pub no_negative : (low m : ℕ) → int_le (pos low) (negsuc m) ≡ true → ⊥
no_negative low m h = absurd cc

chosen : {X : Type 0} (t : Bool) (x y : X) → (if t then Some x else None) ≡ Some y → (t ≡ true) × (x ≡ y)
chosen true x y e = (refl, cc)
chosen false x y e = absurd cc

pub whole_found : (low end n : ℕ) (bytes : List ℕ) → whole_in low end bytes ≡ Some n → (bytes ≡ decimal n) × (low ≤ n) × (n < end)
unfolding whole_in
whole_found low end n bytes e = by_number (number_of bytes) refl e
  where
    by_number : (found : Option ℤ) → number_of bytes ≡ found → within low end found ≡ Some n → (bytes ≡ decimal n) × (low ≤ n) × (n < end)
    by_number None f s = absurd cc
    by_number (Some (pos m)) f s =
        let c = chosen (int_le (pos low) (pos m) && int_lt (pos m) (pos end)) m n s in
        let both = and_parts (int_le (pos low) (pos m)) (int_lt (pos m) (pos end)) c.0 in
        rw (← c.1) ((number_text bytes (pos m) f).0, at_least_pos low m both.0, below_pos m end both.1)
    by_number (Some (negsuc m)) f s =
        let c = chosen (int_le (pos low) (negsuc m) && int_lt (negsuc m) (pos end)) (suc m) n s in
        let both = and_parts (int_le (pos low) (negsuc m)) (int_lt (negsuc m) (pos end)) c.0 in absurd (no_negative low m both.0)

pub below_found : (count n : ℕ) (bytes : List ℕ) → number_below count bytes ≡ Some n → (bytes ≡ decimal n) × (n < count)
below_found count n bytes e =
    let w = whole_found 0 (min count (suc most_instructions)) n bytes e in (w.0, less w.2)
  where
    less : n < min count (suc most_instructions) → n < count
    less h = omega (arith, h)

pub between_parts : (low high n : ℕ) → is_between low high n ≡ true → (low ≤ n) × (n ≤ high)
between_parts low high n h = grind (arith, nat_tests)

pub yes_le : (a b : ℕ) → a ≤ b → int_le (pos a) (pos b) ≡ true
yes_le a b h = grind (arith, ints)

pub yes_lt : (a b : ℕ) → a < b → int_lt (pos a) (pos b) ≡ true
yes_lt a b h = grind (arith, ints)

pub whole_again : (low end n : ℕ) → low ≤ n → n < end → n ≤ most_number → whole_in low end (decimal n) ≡ Some n
unfolding whole_in
whole_again low end n a b small = rw (number_of-signed (pos n) (le_small n small), yes_le low n a, yes_lt n end b) refl

pub lt_found : (a b : ℕ) → nat_lt a b ≡ true → a < b
lt_found a b h = grind (arith, nat_tests)

pub not_lt : (a b : ℕ) → nat_lt a b ≡ false → b ≤ a
not_lt a b h = grind (arith, nat_tests)

pub lt_test : (a b : ℕ) → a < b → nat_lt a b ≡ true
lt_test a b h = grind (arith, nat_tests)

pub le_test : (a b : ℕ) → a ≤ b → nat_le a b ≡ true
le_test a b h = grind (arith, nat_tests)

pub eq_test : (a b : ℕ) → a ≡ b → nat_eq a b ≡ true
eq_test a b e = grind (arith, nat_tests)

pub eq_found : (a b : ℕ) → nat_eq a b ≡ true → a ≡ b
eq_found a b e = grind (arith, nat_tests)
