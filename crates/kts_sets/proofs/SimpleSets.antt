-- The sets of no number, of one, and of those below a number.
use Rattle.std.proofs.Common.{◌≡◌, refl, ◌∙◌, ap, ℕ, suc, zero, ◌+◌, ◌-◌, ◌<◌, ◌≤◌, inl, inr, Bool, true, false, [], ◌∷◌, nat_eq, nat_lt, Some, slice_get, slice_index_or, All, sym, arith}
use Rattle.std.specs.List.{range_with_len, filter}
use Rattle.std.proofs.lemmas.Bool.{eq-eqb, ne_eqb, cases_lt, cases_eq, lt-ltb, le-ltb, true≢false}
use Rattle.std.proofs.lemmas.List.Elements.{filter_passes}
use Rattle.kts_sets.specs.Sets.{limit, set_of}

-- nothing passes
pub filter-none : (p : ℕ → Bool) (a n : ℕ) → ((m : ℕ) → a ≤ m → m < a + n → p m ≡ false) → filter p (range_with_len a n) ≡ []
filter-none p a zero h = refl
filter-none p a (suc n) h = rw (h a (omega arith) (omega arith)) (filter-none p (a + 1) n (λ m l r. h m (omega arith) (omega arith)))

-- no number passes
pub set_of-none : (p : ℕ → Bool) → ((m : ℕ) → m < limit → p m ≡ false) → set_of p ≡ []
unfolding set_of
set_of-none p h = filter-none p 0 limit (λ m l r. h m (omega (arith, r)))

above : (a m : ℕ) → a ≤ m → (a ≡ m → ⊥) → a + 1 ≤ m
above a m l e = grind arith

filter-one : (m a n : ℕ) → a ≤ m → m < a + n → filter (λ x. nat_eq x m) (range_with_len a n) ≡ m ∷ []
filter-one m a zero l h = absurd (omega arith)
filter-one m a (suc n) l h = elim (cases_eq a m) [
  | inl e ↦ rw (eq-eqb a m e, filter-none (λ x. nat_eq x m) (a + 1) n (λ x p q. ne_eqb x m (λ s. omega (arith, s, e)))) (ap (λ k. k ∷ []) e)
  | inr e ↦ rw (ne_eqb a m e) (filter-one m (a + 1) n (above a m l e) (omega arith))
]

-- one number passes
pub set_of-one : (m : ℕ) → m < limit → set_of (λ x. nat_eq x m) ≡ m ∷ []
unfolding set_of
set_of-one m h = filter-one m 0 limit (omega arith) (omega arith)

filter-below : (n a l : ℕ) → a ≤ n → n ≤ a + l → filter (λ x. nat_lt x n) (range_with_len a l) ≡ range_with_len a (n - a)
filter-below n a zero h k = let e : n - a ≡ 0 = omega arith in rw e refl
filter-below n a (suc l) h k = elim (cases_lt a n) [
  | inl less ↦ let e : n - a ≡ suc (n - (a + 1)) = omega arith in rw (lt-ltb a n less, e, filter-below n (a + 1) l (omega arith) (omega arith)) refl
  | inr more ↦ let e : n - a ≡ 0 = omega arith in rw (e) (filter-none (λ x. nat_lt x n) a (suc l) (λ x p q. le-ltb x n (omega arith)))
]

-- the numbers below n pass
pub set_of-below : (n : ℕ) → n ≤ limit → set_of (λ x. nat_lt x n) ≡ range_with_len 0 n
unfolding set_of
set_of-below n h = filter-below n 0 limit (omega arith) (omega arith) ∙ ap (range_with_len 0) (omega arith)

-- the first that passes, where the numbers before it do not
pub first-filter : (p : ℕ → Bool) (x a n : ℕ) → a ≤ x → x < a + n → p x ≡ true → ((y : ℕ) → a ≤ y → y < x → p y ≡ false) → slice_get (filter p (range_with_len a n)) 0 ≡ Some x
first-filter p x a zero l h t none = absurd (omega arith)
first-filter p x a (suc n) l h t none = elim (cases_eq a x) [
  | inl e ↦ let s : p a ≡ true = ap p e ∙ t in rw s (ap Some e)
  | inr e ↦ rw (none a (omega arith) (omega (arith, above a x l e))) (first-filter p x (a + 1) n (above a x l e) (omega arith) t (λ y i j. none y (omega arith) j))
]

-- every member passes
pub All-set_of : (p : ℕ → Bool) (n : ℕ) → ((m : ℕ) → n ≤ m → p m ≡ false) → All (λ m. m < n) (set_of p)
unfolding set_of
All-set_of p n none = λ k d h. elim (cases_lt (slice_index_or (filter p (range_with_len 0 limit)) k d) n) [
  | inl l ↦ l
  | inr l ↦ absurd (true≢false (sym (filter_passes p (range_with_len 0 limit) k d h) ∙ none _ l))
]
