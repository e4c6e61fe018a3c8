-- A name more among those that are declared.
use Rattle.std.proofs.Common.{◌≡◌, ◌==◌, refl, sym, ◌∙◌, ap, ℕ, ◌⊎◌, inl, inr, List, [], ◌∷◌, ◌++◌, length, Bool, true, false, not, ◌&&◌, ◌||◌, cond, None, Some, nat_eq, nat_le}
use Rattle.std.specs.List.{list_all, list_any}
use Rattle.std.specs.Map.{lookup}
use Rattle.std.proofs.lemmas.Bool.{and_parts, and_from, or_parts}
use Rattle.std.proofs.lemmas.Cmp.{nat_list_eq_equiv}
use Rattle.std.proofs.lemmas.List.Folds.{list_all-append, list_any-append}
use Rattle.kts_base.specs.Names.{is_between, is_name_byte, is_name}
use Rattle.kts_spec.specs.Names.{same_name, is_among, is_distinct, is_language_name, is_language_byte, begins_with_letter}
use Rattle.kts_syntax.specs.Words.{is_word, is_letter}
use Rattle.kts_base.specs.Numerals.{begins}

same_symm : (a b : List ℕ) → same_name a b ≡ same_name b a
same_symm = nat_list_eq_equiv.symm

-- ---- tests

or_middle : (u v w : Bool) → (u || v) ≡ false → w ≡ false → (u || (w || v)) ≡ false
or_middle true v w e f = absurd cc
or_middle false v w e f = rw f e

and_middle : (u v w : Bool) → (u && v) ≡ true → w ≡ true → (u && (w && v)) ≡ true
and_middle true v w e f = rw f e
and_middle false v w e f = absurd cc

-- ---- a name in the middle

pub among_in : (xs ys : List (List ℕ)) (n m : List ℕ) → is_among (xs ++ ys) m ≡ false → same_name m n ≡ false → is_among (xs ++ n ∷ ys) m ≡ false
among_in xs ys n m a other =
    list_any-append (same_name m) xs (n ∷ ys) ∙ or_middle (list_any (same_name m) xs) (list_any (same_name m) ys) (same_name m n) (sym (list_any-append (same_name m) xs ys) ∙ a) other

pub all_in : (p : List ℕ → Bool) (xs ys : List (List ℕ)) (n : List ℕ) → list_all p (xs ++ ys) ≡ true → p n ≡ true → list_all p (xs ++ n ∷ ys) ≡ true
all_in p xs ys n a here =
    list_all-append p xs (n ∷ ys) ∙ and_middle (list_all p xs) (list_all p ys) (p n) (sym (list_all-append p xs ys) ∙ a) here

pub distinct_in : (xs ys : List (List ℕ)) (n : List ℕ) → is_distinct (xs ++ ys) ≡ true → is_among (xs ++ ys) n ≡ false → is_distinct (xs ++ n ∷ ys) ≡ true
distinct_in [] ys n d a = and_from (not (is_among ys n)) (is_distinct ys) (ap not a) d
distinct_in (x ∷ xs) ys n d a =
    let both = and_parts (not (is_among (xs ++ ys) x)) (is_distinct (xs ++ ys)) d in
    let other = or_parts (same_name n x) (is_among (xs ++ ys) n) a in
    and_from (not (is_among (xs ++ n ∷ ys) x)) (is_distinct (xs ++ n ∷ ys))
    (ap not (among_in xs ys n x (not_true (is_among (xs ++ ys) x) both.0) (same_symm x n ∙ other.0))) (distinct_in xs ys n both.1 other.1)
  where
    not_true : (b : Bool) → not b ≡ true → b ≡ false
    not_true true e = absurd cc
    not_true false e = refl

-- ---- an entry at the end

module _ {K V : Type 0} (test : K → Bool) where
  pub look_none : (es : List (K × V)) (k : K) (v : V) → lookup test (es ++ (k, v) ∷ []) ≡ None → (lookup test es ≡ None) × (test k ≡ false)
  look_none [] k v e = by (test k) e
    where
      es_none : List (K × V)
      es_none = []

      by : (b : Bool) → cond b (Some v) None ≡ None → (lookup test (es_none) ≡ None) × (b ≡ false)
      by true e = absurd cc
      by false e = (refl, refl)
  look_none (x ∷ es) k v e = by (test x.0) (look_none es k v) e
    where
      by : (b : Bool) → (lookup test (es ++ (k, v) ∷ []) ≡ None → (lookup test es ≡ None) × (test k ≡ false)) → cond b (Some x.1) (lookup test (es ++ (k, v) ∷ [])) ≡ None → (cond b (Some x.1) (lookup test es) ≡ None) × (test k ≡ false)
      by true later e = absurd cc
      by false later e = later e

  pub look_some : (es : List (K × V)) (k : K) (v w : V) → lookup test (es ++ (k, v) ∷ []) ≡ Some w → (lookup test es ≡ Some w) ⊎ (v ≡ w)
  look_some [] k v w e = by (test k) e
    where
      by : (b : Bool) → cond b (Some v) None ≡ Some w → (lookup test [] ≡ Some w) ⊎ (v ≡ w)
      by true e = inr cc
      by false e = absurd cc
  look_some (x ∷ es) k v w e = by (test x.0) (look_some es k v w) e
    where
      by : (b : Bool) → (lookup test (es ++ (k, v) ∷ []) ≡ Some w → (lookup test es ≡ Some w) ⊎ (v ≡ w)) → cond b (Some x.1) (lookup test (es ++ (k, v) ∷ [])) ≡ Some w → (cond b (Some x.1) (lookup test es) ≡ Some w) ⊎ (v ≡ w)
      by true later e = inl e
      by false later e = later e

-- ---- words are names of the language

byte_fits : (u v w e f g : Bool) → (u || v || w || e || f || g) ≡ true → g ≡ false → ((u || v) || w || e || f) ≡ true
byte_fits true v w e f g h n = refl
byte_fits false true w e f g h n = refl
byte_fits false false true e f g h n = refl
byte_fits false false false true f g h n = refl
byte_fits false false false false true g h n = refl
byte_fits false false false false false true h n = absurd cc
byte_fits false false false false false false h n = absurd cc

bytes_fit : (bytes : List ℕ) → list_all is_name_byte bytes ≡ true → list_any (λ b. b == 46) bytes ≡ false → list_all is_language_byte bytes ≡ true
unfolding is_name_byte
bytes_fit [] a n = refl
bytes_fit (b ∷ bytes) a n =
    let one = and_parts (is_name_byte b) (list_all is_name_byte bytes) a in
    let dot = or_parts (b == 46) (list_any (λ b. b == 46) bytes) n in
    and_from (is_language_byte b) (list_all is_language_byte bytes)
    (byte_fits (is_between 97 122 b) (is_between 65 90 b) (is_between 48 57 b) (nat_eq b 95) (nat_eq b 45) (nat_eq b 46) one.0 dot.0) (bytes_fit bytes one.1 dot.1)

begins_fit : (bytes : List ℕ) → begins is_letter bytes ≡ true → begins_with_letter bytes ≡ true
begins_fit [] e = absurd cc
begins_fit (b ∷ bytes) e = (and_parts _ (is_letter b) e).1

pub word_language : (bytes : List ℕ) → is_word bytes ≡ true → is_language_name bytes ≡ true
unfolding is_word is_name
word_language bytes e =
    let three = and_parts _ _ e in
    let two = and_parts _ _ three.0 in
    let one = and_parts (is_name bytes) (begins is_letter bytes) two.0 in
    let name = and_parts (is_between 1 40 (length bytes)) (list_all is_name_byte bytes) one.0 in
    let size = and_parts (nat_le 1 (length bytes)) (nat_le (length bytes) 40) name.0 in
    and_from (begins_with_letter bytes && list_all is_language_byte bytes && nat_le (length bytes) 40) _
    (and_from (begins_with_letter bytes && list_all is_language_byte bytes) (nat_le (length bytes) 40)
    (and_from (begins_with_letter bytes) (list_all is_language_byte bytes) (begins_fit bytes one.1) (bytes_fit bytes name.1 (no_dot (list_any (λ b. b == 46) bytes) two.1))) size.1)
    three.1
  where
    no_dot : (b : Bool) → not b ≡ true → b ≡ false
    no_dot true e = absurd cc
    no_dot false e = refl
