-- Items of lists, one by one and by their places.
use Rattle.std.proofs.Common.{◌≡◌, refl, ap, subst, ℕ, zero, suc, ◌<◌, arith, List, [], ◌∷◌, length, map, get_or, Bool, true, Some, None, ℤ}
use Rattle.std.specs.Prelude.{slice_get}
use Rattle.std.specs.List.{list_all}
use Rattle.std.proofs.lemmas.Bool.{and_parts, and_from}
use Rattle.kts_spec.specs.declared.declarations.Family.{Family}
use Rattle.kts_spec.specs.Data.{is_table, are_tables}
use Rattle.kts_spec.specs.Related.{Pairs, AllOf}
use Rattle.kts_spec.specs.Schemas.{no_family}
use Rattle.kts_spec.specs.Worlds.{World}

-- ---- pairs of two lists

module _ {X Y : Type 0} (R : X → Y → Type 0) where
  -- lists of one length are related where their items at each place are
  pub pairs_from : (a : X) (b : Y) (xs : List X) (ys : List Y) → length xs ≡ length ys
      → ((k : ℕ) → k < length xs → R (get_or xs k a) (get_or ys k b)) → Pairs R xs ys
  pairs_from a b [] [] e h = tt
  pairs_from a b [] (y ∷ ys) e h = absurd (omega (arith, e))
  pairs_from a b (x ∷ xs) [] e h = absurd (omega (arith, e))
  pairs_from a b (x ∷ xs) (y ∷ ys) e h = (h 0 (omega arith), pairs_from a b xs ys (omega (arith, e)) (λ k l. h (suc k) (omega arith)))

  -- related lists have one length
  pub pairs_length : (xs : List X) (ys : List Y) → Pairs R xs ys → length xs ≡ length ys
  pairs_length [] [] h = refl
  pairs_length [] (y ∷ ys) h = absurd h
  pairs_length (x ∷ xs) [] h = absurd h
  pairs_length (x ∷ xs) (y ∷ ys) h = ap suc (pairs_length xs ys h.1)

  -- their items at each place are related
  pub pairs_at : (a : X) (b : Y) (xs : List X) (ys : List Y) → Pairs R xs ys → (k : ℕ) → k < length xs → R (get_or xs k a) (get_or ys k b)
  pairs_at a b [] ys h k l = absurd (omega arith)
  pairs_at a b (x ∷ xs) [] h k l = absurd h
  pairs_at a b (x ∷ xs) (y ∷ ys) h zero l = h.0
  pairs_at a b (x ∷ xs) (y ∷ ys) h (suc k) l = pairs_at a b xs ys h.1 k (omega arith)

-- ---- each item of a list

module _ {X : Type 0} (P : X → Type 0) where
  -- each item has what the item at each place has
  pub each_from : (a : X) (xs : List X) → ((k : ℕ) → k < length xs → P (get_or xs k a)) → AllOf P xs
  each_from a [] h = tt
  each_from a (x ∷ xs) h = (h 0 (omega arith), each_from a xs (λ k l. h (suc k) (omega arith)))

  -- the item at each place has what each item has
  pub each_at : (a : X) (xs : List X) → AllOf P xs → (k : ℕ) → k < length xs → P (get_or xs k a)
  each_at a [] h k l = absurd (omega arith)
  each_at a (x ∷ xs) h zero l = h.0
  each_at a (x ∷ xs) h (suc k) l = each_at a xs h.1 k (omega arith)

  -- an item at a place has what each item has
  pub each_get : (xs : List X) (k : ℕ) (x : X) → AllOf P xs → slice_get xs k ≡ Some x → P x
  each_get [] k x h e = absurd (let none : None ≡ Some x = e in cc)
  each_get (y ∷ xs) zero x h e = let same : y ≡ x = cc in subst P same h.0
  each_get (y ∷ xs) (suc k) x h e = each_get xs k x h.1 e

-- each item passes a test
pub passes_from : {X : Type 0} (test : X → Bool) (a : X) (xs : List X) → ((k : ℕ) → k < length xs → test (get_or xs k a) ≡ true)
    → list_all test xs ≡ true
passes_from test a [] h = refl
passes_from test a (x ∷ xs) h = and_from (test x) (list_all test xs) (h 0 (omega arith)) (passes_from test a xs (λ k l. h (suc k) (omega arith)))

-- the item at each place passes what each item passes
pub passes_at : {X : Type 0} (test : X → Bool) (a : X) (xs : List X) → list_all test xs ≡ true → (k : ℕ) → k < length xs → test (get_or xs k a) ≡ true
passes_at test a [] h k l = absurd (omega arith)
passes_at test a (x ∷ xs) h zero l = (and_parts (test x) (list_all test xs) h).0
passes_at test a (x ∷ xs) h (suc k) l = passes_at test a xs (and_parts (test x) (list_all test xs) h).1 k (omega arith)

-- each family has its table
pub tables_from : (w : World) (families : List Family) (tables : List (List ℤ)) → length families ≡ length tables
    → ((k : ℕ) → k < length families → is_table w (get_or families k no_family) (get_or tables k []) ≡ true) → are_tables w families tables ≡ true
tables_from w [] [] e h = refl
tables_from w [] (t ∷ tables) e h = absurd (omega (arith, e))
tables_from w (f ∷ families) [] e h = absurd (omega (arith, e))
tables_from w (f ∷ families) (t ∷ tables) e h =
    and_from (is_table w f t) (are_tables w families tables) (h 0 (omega arith))
    (tables_from w families tables (omega (arith, e)) (λ k l. h (suc k) (omega arith)))

-- the number of members of an index
pub size_is : (members : List (List (List ℕ))) (i : ℕ) → get_or (map length members) i 0 ≡ length (get_or members i [])
size_is [] i = refl
size_is (names ∷ members) zero = refl
size_is (names ∷ members) (suc i) = size_is members i
