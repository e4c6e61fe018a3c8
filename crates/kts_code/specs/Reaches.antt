-- Runs of any system whose length, way and end may depend on what is picked.
use Rattle.std.specs.Prelude.{ℕ, ◌<◌, ◌≤◌}
use Rattle.kts_code.specs.Machine.{steps}

-- whatever is picked, after at most so many steps the system is in a state of P, and each state before is one of S
pub record Reaches {X : Type 0} (f : ℕ → X → X) (S : X → Type 0) (x : X) (most : ℕ) (P : X → Type 0) : Type 0 where
  pub ends : (picks : ℕ → ℕ) → (n : ℕ) × (n ≤ most) × ((k : ℕ) → k < n → S (steps f picks k x)) × P (steps f picks n x)

-- the state itself
pub data Is {X : Type 0} (x : X) : X → Type 0 where
  Here : Is x x
