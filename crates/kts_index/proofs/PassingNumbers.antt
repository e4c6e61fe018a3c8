-- The numbers of a range that pass a test.
use Rattle.std.proofs.Common.{◌≡◌, refl, sym, ap, ◌∙◌, ℕ, zero, suc, ◌+◌, ◌-◌, ◌<◌, ◌≤◌, inl, inr, List, [], ◌∷◌, Bool, true, false, cond, None, Some, arith}
use Rattle.std.specs.Prelude.{slice_get}
use Rattle.std.specs.List.{filter, range_with_len}
use Rattle.std.proofs.lemmas.Bool.{cases_lt}
use Rattle.kts_index.specs.FirstNumbers.{NonePasses}

module _ (test : ℕ → Bool) where
  -- a number of a range that passes
  pub record Passes (a n x : ℕ) : Type 0 where
    pub after : a ≤ x
    pub before : x < a + n
    pub passes : test x ≡ true

  -- the first of them, by its test
  one_passes : (b : Bool) (a n k x : ℕ) (rest : List ℕ) → test a ≡ b → ((j : ℕ) → slice_get rest j ≡ Some x → Passes (a + 1) n x)
      → slice_get (cond b (a ∷ rest) rest) k ≡ Some x → Passes a (suc n) x
  one_passes true a n zero x rest q more e = let same : a ≡ x = cc in record { after = omega arith; before = omega arith; passes = ap test (sym same) ∙ q }
  one_passes true a n (suc k) x rest q more e = let p = more k e in record { after = omega (arith, p.after); before = omega (arith, p.before); passes = p.passes }
  one_passes false a n k x rest q more e = let p = more k e in record { after = omega (arith, p.after); before = omega (arith, p.before); passes = p.passes }

  -- each that is there passes
  pub all_pass : (a n k x : ℕ) → slice_get (filter test (range_with_len a n)) k ≡ Some x → Passes a n x
  all_pass a zero k x e = absurd (let none : None ≡ Some x = e in cc)
  all_pass a (suc n) k x e = one_passes (test a) a n k x (filter test (range_with_len (a + 1) n)) refl (λ j. all_pass (a + 1) n j x) e

  -- what is in the rest is there
  one_later : (b : Bool) (a x : ℕ) (rest : List ℕ) → (k : ℕ) × (slice_get rest k ≡ Some x) → (k : ℕ) × (slice_get (cond b (a ∷ rest) rest) k ≡ Some x)
  one_later true a x rest p = (suc p.0, p.1)
  one_later false a x rest p = p

  -- each that passes is there
  pub stands : (a n x : ℕ) → Passes a n x → (k : ℕ) × (slice_get (filter test (range_with_len a n)) k ≡ Some x)
  stands a zero x p = absurd (let l = p.after in let u = p.before in omega (arith, l, u))
  stands a (suc n) x p = elim (cases_lt a x) [
    | inl less ↦ one_later (test a) a x (filter test (range_with_len (a + 1) n)) (stands (a + 1) n x (record { after = omega arith; before = let u = p.before in omega (arith, u); passes = p.passes }))
    | inr more ↦
        let same : a ≡ x = let l = p.after in omega (arith, l) in
        let here : test a ≡ true = ap test same ∙ p.passes in
        (0, rw here (ap (λ a. Some a) same))
  ]

  -- two of them, where one may be the first
  one_rises : (b : Bool) (a j k x y : ℕ) (rest : List ℕ) → ((i z : ℕ) → slice_get rest i ≡ Some z → a < z)
      → ((j k : ℕ) → slice_get rest j ≡ Some x → slice_get rest k ≡ Some y → j < k → x < y)
      → slice_get (cond b (a ∷ rest) rest) j ≡ Some x → slice_get (cond b (a ∷ rest) rest) k ≡ Some y → j < k → x < y
  one_rises true a j zero x y rest low more e f h = absurd (omega arith)
  one_rises true a zero (suc k) x y rest low more e f h = let same : a ≡ x = cc in let l = low k y f in omega (arith, same, l)
  one_rises true a (suc j) (suc k) x y rest low more e f h = more j k e f (omega arith)
  one_rises false a j k x y rest low more e f h = more j k e f h

  -- and they rise
  pub passing_rise : (a n j k x y : ℕ) → slice_get (filter test (range_with_len a n)) j ≡ Some x → slice_get (filter test (range_with_len a n)) k ≡ Some y → j < k → x < y
  passing_rise a zero j k x y e f h = absurd (let none : None ≡ Some x = e in cc)
  passing_rise a (suc n) j k x y e f h =
      one_rises (test a) a j k x y (filter test (range_with_len (a + 1) n)) (λ i z g. let l = (all_pass (a + 1) n i z g).after in omega (arith, l))
      (λ j k. passing_rise (a + 1) n j k x y) e f h

-- from one on and below an end
module _ (test : ℕ → Bool) (end : ℕ) where
  -- those that pass
  abbrev pub from_on : ℕ → List ℕ
  from_on t = filter test (range_with_len t (end - t))

  -- the first number, and those after it
  opened : (t : ℕ) → t < end → range_with_len t (end - t) ≡ t ∷ range_with_len (t + 1) (end - (t + 1))
  opened t h = let e : end - t ≡ suc (end - (t + 1)) = omega arith in rw e refl

  -- a number that passes is the first
  pub taken : (t : ℕ) → t < end → test t ≡ true → from_on t ≡ t ∷ from_on (t + 1)
  taken t h e = rw (opened t h, e) refl

  -- one that does not is left out
  passed : (t : ℕ) → t < end → test t ≡ false → from_on t ≡ from_on (t + 1)
  passed t h e = rw (opened t h, e) refl

  -- a stretch where none passes is left out
  pub skipped : (k t : ℕ) → t + k ≤ end → NonePasses test t (t + k) → from_on t ≡ from_on (t + k)
  skipped zero t h none = ap from_on (omega arith)
  skipped (suc k) t h none =
      passed t (omega arith) (none t (omega arith) (omega arith))
      ∙ (skipped k (t + 1) (omega arith) (λ x a b. none x (omega arith) (omega arith)) ∙ ap from_on (omega arith))

  -- past the end none is left
  pub past : (t : ℕ) → end ≤ t → from_on t ≡ []
  past t h = let e : end - t ≡ 0 = omega arith in rw e refl
