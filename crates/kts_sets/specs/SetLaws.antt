-- What is in a set, and in which order.
use Rattle.std.proofs.Common.{◌≡◌, refl, sym, ◌∙◌, ap, ℕ, suc, zero, ◌+◌, ◌<◌, ◌≤◌, ◌⊎◌, inl, inr, Bool, true, false, ◌&&◌, List, [], ◌∷◌, length, nat_eq, arith}
use Rattle.std.specs.List.{range_with_len, filter}
use Rattle.std.specs.List.Sorted.{IsStrictlyIncreasing}
use Rattle.std.proofs.lemmas.List.FromFn.{get_or-range_with_len, length-range_with_len}
use Rattle.std.proofs.lemmas.List.Kept.{IsStrictlyIncreasing-filter}
use Rattle.std.proofs.lemmas.Bool.{eqb-true, eq-eqb, ne_eqb, cases_Bool, cases_eq}
use Rattle.std.proofs.Math.Bool.{and-false, and-true}
use Rattle.kts_sets.specs.Sets.{limit, set_of, elem, IsSet}

filter_same : (p q : ℕ → Bool) (a n : ℕ) → ((m : ℕ) → a ≤ m → m < a + n → p m ≡ q m) → filter p (range_with_len a n) ≡ filter q (range_with_len a n)
filter_same p q a zero h = refl
filter_same p q a (suc n) h =
    rw (h a (omega arith) (omega arith), filter_same p q (a + 1) n (λ m l r. h m (omega arith) (omega arith))) refl

-- two tests that agree below the limit give one set
pub set_ext : (p q : ℕ → Bool) → ((m : ℕ) → m < limit → p m ≡ q m) → set_of p ≡ set_of q
unfolding set_of
set_ext p q h = filter_same p q 0 limit (λ m l r. h m (omega (arith, r)))

filter_twice : (p q : ℕ → Bool) (xs : List ℕ) → filter q (filter p xs) ≡ filter (λ m. p m && q m) xs
filter_twice p q [] = refl
filter_twice p q (x ∷ xs) = elim (cases_Bool (p x)) [
  | inl e ↦ rw (e, filter_twice p q xs) refl
  | inr e ↦ rw (e, filter_twice p q xs) refl
]

-- what is kept of a set is the set of what passes both tests
pub filter-set : (p q : ℕ → Bool) → filter q (set_of p) ≡ set_of (λ m. p m && q m)
unfolding set_of
filter-set p q = filter_twice p q (range_with_len 0 limit)

-- what is in the kept part was in the list and passes
pub elem-filter : (p : ℕ → Bool) (m : ℕ) (xs : List ℕ) → elem m (filter p xs) ≡ (p m && elem m xs)
unfolding elem
elem-filter p m [] = sym (and-false (p m))
elem-filter p m (x ∷ xs) = elim (cases_Bool (nat_eq m x)) [
  | inl same ↦ let e : p m ≡ p x = ap p (eqb-true m x same) in elim (cases_Bool (p x)) [
    | inl y ↦ rw (same, e, y, same) refl
    | inr n ↦ rw (same, e, n, elem-filter p m xs, e, n) refl
  ]
  | inr not_same ↦ elim (cases_Bool (p x)) [
    | inl y ↦ rw (not_same, y, not_same, elem-filter p m xs) refl
    | inr n ↦ rw (not_same, n, elem-filter p m xs) refl
  ]
]

ne_lt : (m a : ℕ) → a ≤ m → (m ≡ a → ⊥) → a < m
ne_lt m a l e = grind arith

-- a range has what lies in it
pub elem-range_in : (m a n : ℕ) → a ≤ m → m < a + n → elem m (range_with_len a n) ≡ true
unfolding elem
elem-range_in m a zero l h = absurd (omega arith)
elem-range_in m a (suc n) l h = elim (cases_eq m a) [
  | inl e ↦ rw (eq-eqb m a e) refl
  | inr e ↦ rw (ne_eqb m a e) (elem-range_in m (a + 1) n (omega (arith, ne_lt m a l e)) (omega arith))
]

-- a range has nothing else
pub elem-range_out : (m a n : ℕ) → (m < a) ⊎ (a + n ≤ m) → elem m (range_with_len a n) ≡ false
unfolding elem
elem-range_out m a zero h = refl
elem-range_out m a (suc n) (inl h) = rw (ne_eqb m a (λ e. omega (arith, e))) (elem-range_out m (a + 1) n (inl (omega arith)))
elem-range_out m a (suc n) (inr h) = rw (ne_eqb m a (λ e. omega (arith, e))) (elem-range_out m (a + 1) n (inr (omega arith)))

-- a number below the limit is in a set where it passes
pub elem-set : (p : ℕ → Bool) (m : ℕ) → m < limit → elem m (set_of p) ≡ p m
unfolding set_of
elem-set p m h = elem-filter p m (range_with_len 0 limit) ∙ ap (λ b. p m && b) (elem-range_in m 0 limit (omega arith) (omega arith)) ∙ and-true (p m)

-- no other number is in a set
pub elem-set_out : (p : ℕ → Bool) (m : ℕ) → limit ≤ m → elem m (set_of p) ≡ false
unfolding set_of
elem-set_out p m h = elem-filter p m (range_with_len 0 limit) ∙ ap (λ b. p m && b) (elem-range_out m 0 limit (inr (omega arith))) ∙ and-false (p m)

-- what a test gives is a set
pub IsSet-set : (p : ℕ → Bool) → IsSet (set_of p)
IsSet-set p = record { is = set_ext p (λ m. elem m (set_of p)) (λ m l. sym (elem-set p m l)) }

-- what is kept of a set is a set
pub IsSet-filter : (p : ℕ → Bool) (a : List ℕ) → IsSet a → IsSet (filter p a)
IsSet-filter p a s =
    let e : filter p a ≡ set_of (λ m. elem m a && p m) = ap (filter p) s.is ∙ filter-set (λ m. elem m a) p in
    rw e (IsSet-set (λ m. elem m a && p m))

-- two sets with the same members are one
pub same_set : (a b : List ℕ) → IsSet a → IsSet b → ((m : ℕ) → elem m a ≡ elem m b) → a ≡ b
same_set a b s t h = s.is ∙ set_ext (λ m. elem m a) (λ m. elem m b) (λ m _. h m) ∙ sym t.is

IsStrictlyIncreasing-range : (a n : ℕ) → IsStrictlyIncreasing (range_with_len a n)
IsStrictlyIncreasing-range a n k h =
    let long : length (range_with_len a n) ≡ n = length-range_with_len a n in
    rw (get_or-range_with_len a n k 0 (omega arith), get_or-range_with_len a n (k + 1) 0 (omega arith)) (omega arith)

-- the members of a set rise
pub IsSet-rises : (a : List ℕ) → IsSet a → IsStrictlyIncreasing a
unfolding set_of
IsSet-rises a s = rw (s.is) (IsStrictlyIncreasing-filter (λ m. elem m a) (range_with_len 0 limit) (IsStrictlyIncreasing-range 0 limit))
