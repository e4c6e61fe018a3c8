-- Skips to the first number that passes a test.
use Rattle.std.proofs.Common.{◌≡◌, ◌≢◌, refl, ◌∙◌, ℕ, ◌<◌, ◌≤◌, inl, inr, Bool, true, false, ◌&&◌, ◌||◌, arith}
use Rattle.std.proofs.lemmas.Bool.{cases_lt}
use Rattle.kts_index.specs.FirstNumbers.{NonePasses, IsSkip, IsFirst}

-- ---- skips

-- of two tests that agree everywhere
pub same_skip : {t u : ℕ → Bool} {from next : ℕ} → ((x : ℕ) → u x ≡ t x) → IsSkip t from next → IsSkip u from next
same_skip {from = from} e s = record {
  after = s.after;
  none = λ x h k. e x ∙ s.none x h k;
  passes = λ h. e from ∙ s.passes h;
}

-- of a test that nothing passes
pub never : {t : ℕ → Bool} {from next : ℕ} → ((x : ℕ) → t x ≡ false) → from < next → IsSkip t from next
never e h = record { after = omega arith; none = λ x a b. e x; passes = λ k. absurd (omega arith) }

-- of a test that the number itself passes
pub here : (t : ℕ → Bool) (from : ℕ) → t from ≡ true → IsSkip t from from
here t from h = record { after = omega arith; none = λ x a b. absurd (omega arith); passes = λ e. h }

-- a test that fails after any other
pub and_false : (a b : Bool) → b ≡ false → (a && b) ≡ false
and_false true b h = h
and_false false b h = refl

-- of two tests together: by the first where it moves
pub by_first : (t u : ℕ → Bool) (from next : ℕ) → next ≢ from → IsSkip t from next → IsSkip (λ x. t x && u x) from next
by_first t u from next n s = record {
  after = s.after;
  none = λ x h k. rw (s.none x h k) refl;
  passes = λ e. absurd (n e);
}

-- and else by the second
pub by_second : (t u : ℕ → Bool) (from first next : ℕ) → first ≡ from → IsSkip t from first → IsSkip u from next → IsSkip (λ x. t x && u x) from next
by_second t u from first next e s r = record {
  after = r.after;
  none = λ x h k. and_false (t x) (u x) (r.none x h k);
  passes = λ n. rw (s.passes e) (r.passes n);
}

-- ---- the first number that passes

-- none passes in two stretches, one after the other
pub join : (t : ℕ → Bool) (a b c : ℕ) → NonePasses t a b → NonePasses t b c → NonePasses t a c
join t a b c f g x h k = elim (cases_lt x b) [ inl less ↦ f x h less | inr more ↦ g x more k ]

-- where none is left, there is none below the end
pub none_found : (t : ℕ → Bool) (from at below : ℕ) → from ≤ below → below ≤ at → NonePasses t from at → IsFirst t from below below
none_found t from at below h l none = record { after = h; within = omega arith; none = λ x a b. none x a (omega arith); passes = λ k. absurd (omega arith) }

-- nor where nothing passes at all
pub never_found : (t : ℕ → Bool) (from below : ℕ) → from ≤ below → ((x : ℕ) → t x ≡ false) → IsFirst t from below below
never_found t from below h e = record { after = h; within = omega arith; none = λ x a b. e x; passes = λ k. absurd (omega arith) }

-- the first number of two tests that agree everywhere
pub same_first : {t u : ℕ → Bool} {from below first : ℕ} → ((x : ℕ) → u x ≡ t x) → IsFirst t from below first → IsFirst u from below first
same_first {first = first} e f = record { after = f.after; within = f.within; none = λ x h k. e x ∙ f.none x h k; passes = λ h. e first ∙ f.passes h }

-- one of two tests alone
or_true : (a : Bool) → (a || true) ≡ true
or_true true = refl
or_true false = refl

-- and where the second never passes
pub or_false : (a : Bool) → (a || false) ≡ a
or_false true = refl
or_false false = refl

-- the first number that passes one of two tests, looked for by the second below the first that passes the first
pub of_either : (t u : ℕ → Bool) (from below a b : ℕ) → IsFirst t from below a → IsFirst u from a b → IsFirst (λ x. t x || u x) from below b
of_either t u from below a b f g = record {
  after = g.after;
  within = let p = f.within in let q = g.within in omega arith;
  none = λ x h k. let q = g.within in rw (f.none x h (omega arith), g.none x h k) refl;
  passes = λ h. elim (cases_lt b a) [
    | inl less ↦ rw (g.passes less) (or_true (t b))
    | inr more ↦ let q = g.within in let same : b ≡ a = omega arith in rw (same, f.passes (omega arith)) refl
  ];
}
