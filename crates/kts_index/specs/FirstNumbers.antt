-- The first number that passes a test.
use Rattle.std.specs.Prelude.{◌≡◌, ℕ, ◌<◌, ◌≤◌, Bool, true, false}

-- no number from one on and below another passes
abbrev pub NonePasses : (ℕ → Bool) → ℕ → ℕ → Type 0
NonePasses test from below = (x : ℕ) → from ≤ x → x < below → test x ≡ false

-- a number at or after another where none before it passes; the same number only where it passes
pub record IsSkip (test : ℕ → Bool) (from next : ℕ) : Type 0 where
  pub after : from ≤ next
  pub none : NonePasses test from next
  pub passes : next ≡ from → test from ≡ true

-- the first number from one on that passes, or the end where there is none below it
pub record IsFirst (test : ℕ → Bool) (from below first : ℕ) : Type 0 where
  pub after : from ≤ first
  pub within : first ≤ below
  pub none : NonePasses test from first
  pub passes : first < below → test first ≡ true
