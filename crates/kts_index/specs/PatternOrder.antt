-- Where the patterns of a constraint stand.
use Rattle.std.specs.Prelude.{◌≡◌, ℕ, ◌+◌, ◌<◌, ◌≤◌, List, length, slice_index_or, true, Bool}
use Rattle.kts_index.specs.declared.pattern.Pattern.{Pattern}

-- the patterns are in the order of their constraints
abbrev pub AreInOrder : List Pattern → Type 0
AreInOrder ps = (k : ℕ) (p q : Pattern) → k + 1 < length ps → (slice_index_or ps k p).definite ≤ (slice_index_or ps (k + 1) q).definite

-- the patterns before a place are of constraints before this one
abbrev pub AreBefore : List Pattern → ℕ → ℕ → Type 0
AreBefore ps d from = (k : ℕ) (p : Pattern) → k < from → (slice_index_or ps k p).definite < d

-- the patterns before a place are of earlier constraints, and those from another on of later ones
pub record IsGroup (ps : List Pattern) (d from end : ℕ) : Type 0 where
  pub ordered : from ≤ end
  pub within : end ≤ length ps
  pub before : AreBefore ps d from
  pub after : (k : ℕ) (p : Pattern) → end ≤ k → k < length ps → d < (slice_index_or ps k p).definite

-- so many patterns are known to be of constraints before this one
pub record ArePassed (ps : List Pattern) (in_order : Bool) (d from : ℕ) : Type 0 where
  pub sorted : in_order ≡ true → AreInOrder ps
  pub within : from ≤ length ps
  pub before : AreBefore ps d from
