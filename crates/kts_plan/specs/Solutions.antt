-- Spaces that meet all that tasks ask, and the least of them above a space.
use Rattle.std.specs.Prelude.{◌≡◌, ℕ, List, [], slice_index_or, Bool, true, Option, Some, None}
use Rattle.kts_spec.specs.Worlds.{World}
use Rattle.kts_abs.specs.Demands.{Demand, meets}
use Rattle.kts_abs.specs.Spaces.{IsAbove, IsSpace}
use Rattle.kts_abs.specs.Values.{Abs, Mem}
use Rattle.kts_clause.specs.declared.clause.Clause.{Clause}
use Rattle.kts_plan.specs.Asks.{asks_in}

-- the cell of this number
abbrev pub cell_at : List Abs → ℕ → Abs
cell_at space c = slice_index_or space c (Mem [])

-- whether the cell meets what is asked of it
abbrev pub asked_is_met : Option (ℕ × Demand) → List Abs → Bool
asked_is_met None space = true
asked_is_met (Some a) space = meets a.1 (cell_at space a.0)

module _ (w : World) (clauses : List Clause) where
  -- whether a space meets what the task of this number asks of it
  abbrev pub is_met : ℕ → List Abs → Bool
  is_met k space = asked_is_met (asks_in w clauses k space) space

  -- it meets what every task asks
  abbrev pub Solves : List Abs → Type 0
  Solves space = (k : ℕ) → is_met k space ≡ true

  -- t is the least space above s that does
  pub record IsLeast (s t : List Abs) : Type 0 where
    pub space : IsSpace w t
    pub above : IsAbove s t
    pub solves : Solves t
    pub least : (u : List Abs) → IsSpace w u → IsAbove s u → Solves u → IsAbove t u

  -- no space above s does
  pub record NoneAbove (s : List Abs) : Type 0 where
    pub none : (u : List Abs) → IsSpace w u → IsAbove s u → Solves u → ⊥
