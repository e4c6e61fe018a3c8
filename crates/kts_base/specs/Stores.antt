-- What files tell.
use Rattle.std.specs.Prelude.{ℕ, List, Option}

-- what is held under each path, where it is told: nothing, or these bytes; how often a load failed; how many bytes the
-- latest load took; how many loads were made, where it is told
pub record Store : Type 0 where
  pub held : List ℕ → Option (Option (List ℕ))
  pub faults : ℕ
  pub taken : ℕ
  pub loads : Option ℕ
