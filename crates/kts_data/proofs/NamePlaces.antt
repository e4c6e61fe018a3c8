-- Names among names: which is one of them, which are distinct, and where one stands.
use Rattle.std.proofs.Common.{◌≡◌, refl, sym, ◌∙◌, ap, subst, ℕ, zero, suc, ◌+◌, ◌<◌, arith, List, [], ◌∷◌, ◌++◌, length, Bool, true, false, not, cond, Some, None, ℤ, pos}
use Rattle.std.specs.Prelude.{slice_get, nat_lt, option_map, option_and_then, if◌then◌else◌}
use Rattle.std.specs.List.{position_or_len}
use Rattle.std.proofs.lemmas.Bool.{and_parts, and_from, or_parts, or_from, not-true}
use Rattle.std.proofs.lemmas.Cmp.{nat_list_eq_equiv}
use Rattle.std.proofs.lemmas.Option.{slice_get_within}
use Rattle.std.proofs.lemmas.Slice.Eq.{bytes_eq-Decides}
use Rattle.kts_base.specs.Names.{is_name}
use Rattle.kts_base.proofs.Orders.{nat_lt_yes, yes_nat_lt}
use Rattle.kts_spec.specs.Names.{same_name, is_among, is_distinct}
use Rattle.kts_data.specs.Instances.{place_of_name, place_in}

-- equal names are one, and one name is equal to itself
pub name_is : (a b : List ℕ) → same_name a b ≡ true → a ≡ b
name_is a b e = (bytes_eq-Decides a b).0 e

-- a name is equal to itself
pub name_itself : (a : List ℕ) → same_name a a ≡ true
name_itself a = (bytes_eq-Decides a a).1 refl

-- two names are equal in either order
same_symm : (a b : List ℕ) → same_name a b ≡ same_name b a
same_symm = nat_list_eq_equiv.symm

-- ---- distinct names

-- a name that is none of these, and not the next
apart_push : (xs : List (List ℕ)) (n m : List ℕ) → is_among xs m ≡ false → same_name m n ≡ false → is_among (xs ++ n ∷ []) m ≡ false
apart_push [] n m a other = or_from (same_name m n) false other refl
apart_push (x ∷ xs) n m a other =
    let both = or_parts (same_name m x) (is_among xs m) a in
    or_from (same_name m x) (is_among (xs ++ n ∷ []) m) both.0 (apart_push xs n m both.1 other)

-- distinct names with one that is new
pub distinct_push : (xs : List (List ℕ)) (n : List ℕ) → is_distinct xs ≡ true → is_among xs n ≡ false → is_distinct (xs ++ n ∷ []) ≡ true
distinct_push [] n d a = refl
distinct_push (x ∷ xs) n d a =
    let both = and_parts (not (is_among xs x)) (is_distinct xs) d in
    let other = or_parts (same_name n x) (is_among xs n) a in
    and_from (not (is_among (xs ++ n ∷ []) x)) (is_distinct (xs ++ n ∷ []))
    (ap not (apart_push xs n x (not-true (is_among xs x) both.0) (same_symm x n ∙ other.0))) (distinct_push xs n both.1 other.1)

-- a name that is none of these is not the one in their middle
apart_middle : (xs ys : List (List ℕ)) (n m : List ℕ) → is_among (xs ++ n ∷ ys) m ≡ false → same_name m n ≡ false
apart_middle [] ys n m a = (or_parts (same_name m n) (is_among ys m) a).0
apart_middle (x ∷ xs) ys n m a = apart_middle xs ys n m (or_parts (same_name m x) (is_among (xs ++ n ∷ ys) m) a).1

-- of distinct names each is new after those before it
pub distinct_new : (xs ys : List (List ℕ)) (n : List ℕ) → is_distinct (xs ++ n ∷ ys) ≡ true → is_among xs n ≡ false
distinct_new [] ys n d = refl
distinct_new (x ∷ xs) ys n d =
    let both = and_parts (not (is_among (xs ++ n ∷ ys) x)) (is_distinct (xs ++ n ∷ ys)) d in
    or_from (same_name n x) (is_among xs n) (same_symm n x ∙ apart_middle xs ys n x (not-true (is_among (xs ++ n ∷ ys) x) both.0))
    (distinct_new xs ys n both.1)

-- a name that is none of these is not the one at a place
apart_at : (xs : List (List ℕ)) (k : ℕ) (n m : List ℕ) → slice_get xs k ≡ Some n → is_among xs m ≡ false → same_name m n ≡ false
apart_at [] k n m e a = absurd (let none : None ≡ Some n = e in cc)
apart_at (x ∷ xs) zero n m e a = let same : x ≡ n = cc in subst (λ z. same_name m z ≡ false) same (or_parts (same_name m x) (is_among xs m) a).0
apart_at (x ∷ xs) (suc k) n m e a = apart_at xs k n m e (or_parts (same_name m x) (is_among xs m) a).1

-- ---- the place of a name

-- at the place of the first that is equal stands the name
found : (name : List ℕ) (names : List (List ℕ)) → position_or_len (same_name name) names < length names
    → slice_get names (position_or_len (same_name name) names) ≡ Some name
found name [] h = absurd (omega arith)
found name (x ∷ names) h = by (same_name name x) refl (found name names) h
  where
    one_more : (n : ℕ) → slice_get (x ∷ names) (1 + n) ≡ slice_get names n
    one_more n = let e : 1 + n ≡ suc n = omega arith in ap (slice_get (x ∷ names)) e

    by : (b : Bool) → same_name name x ≡ b
        → (position_or_len (same_name name) names < length names → slice_get names (position_or_len (same_name name) names) ≡ Some name)
        → cond (not b) (1 + position_or_len (same_name name) names) 0 < suc (length names)
        → slice_get (x ∷ names) (cond (not b) (1 + position_or_len (same_name name) names) 0) ≡ Some name
    by true e rest l = ap (λ n. Some n) (sym (name_is name x e))
    by false e rest l = one_more (position_or_len (same_name name) names) ∙ rest (omega (arith, l))

-- among distinct names the first that is equal is the one at its place
stands_first : (name : List ℕ) (names : List (List ℕ)) (m : ℕ) → is_distinct names ≡ true → slice_get names m ≡ Some name
    → position_or_len (same_name name) names ≡ m
stands_first name [] m d e = absurd (let none : None ≡ Some name = e in cc)
stands_first name (x ∷ names) zero d e =
    let same : x ≡ name = cc in
    let yes : same_name name x ≡ true = ap (same_name name) same ∙ name_itself name in
    ap (λ b. cond (not b) (1 + position_or_len (same_name name) names) 0) yes
stands_first name (x ∷ names) (suc m) d e =
    let both = and_parts (not (is_among names x)) (is_distinct names) d in
    let no : same_name name x ≡ false = same_symm name x ∙ apart_at names m name x e (not-true (is_among names x) both.0) in
    let rest = stands_first name names m both.1 e in
    ap (λ b. cond (not b) (1 + position_or_len (same_name name) names) 0) no ∙ omega (arith, rest)

-- a text that has a place is the name there
pub place_sound : (names : List (List ℕ)) (text : List ℕ) (v : ℤ) → place_in names text ≡ Some v
    → (m : ℕ) × (v ≡ pos m) × (slice_get names m ≡ Some text) × (m < length names)
place_sound names text v e = by (is_name text) e
  where
    within : (b : Bool) → nat_lt (position_or_len (same_name text) names) (length names) ≡ b
        → option_map pos (cond b (Some (position_or_len (same_name text) names)) None) ≡ Some v
        → (m : ℕ) × (v ≡ pos m) × (slice_get names m ≡ Some text) × (m < length names)
    within true l f =
        let less = nat_lt_yes (position_or_len (same_name text) names) (length names) l in
        let same : pos (position_or_len (same_name text) names) ≡ v = cc in
        (position_or_len (same_name text) names, sym same, found text names less, less)
    within false l f = absurd (let none : None ≡ Some v = f in cc)

    by : (b : Bool) → option_and_then (place_of_name names) (if b then Some text else None) ≡ Some v
        → (m : ℕ) × (v ≡ pos m) × (slice_get names m ≡ Some text) × (m < length names)
    by true f = within (nat_lt (position_or_len (same_name text) names) (length names)) refl f
    by false f = absurd (let none : None ≡ Some v = f in cc)

-- a name has its place among distinct names
pub place_complete : (names : List (List ℕ)) (name : List ℕ) (m : ℕ) → is_name name ≡ true → is_distinct names ≡ true
    → slice_get names m ≡ Some name → place_in names name ≡ Some (pos m)
place_complete names name m n d e =
    let at = stands_first name names m d e in
    let inside = slice_get_within names m name e in
    let less = yes_nat_lt m (length names) inside in
    ap (λ b. option_and_then (place_of_name names) (if b then Some name else None)) n
    ∙ ap (λ k. option_map pos (cond (nat_lt k (length names)) (Some k) None)) at
    ∙ ap (λ b. option_map pos (cond b (Some m) None)) less
