-- The nodes and schedules that a search goes through, in order.
use Rattle.std.specs.Prelude.{◌≡◌, ℕ, List, [], ◌∷◌, ◌++◌, map, filter, Bool, true, false, not, Option, Some, None}
use Rattle.std.specs.List.{list_all}
use Rattle.kts_spec.specs.Worlds.{World, size_of}
use Rattle.kts_abs.specs.declared.truth.Tri.{Tri}
use Rattle.kts_abs.specs.InSpace.{in_space}
use Rattle.kts_abs.specs.Items.{Item, node, schedule}
use Rattle.kts_abs.specs.Spaces.{initial, least_in, split_cell, left, right}
use Rattle.kts_abs.specs.Values.{Abs}
use Rattle.kts_clause.specs.declared.clause.Clause.{Clause}
use Rattle.kts_clause.specs.ClauseTruth.{clause_truth}
use Rattle.kts_plan.specs.Asks.{is_false}
use Rattle.kts_plan.specs.Plans.{is_residual}
use Rattle.kts_plan.specs.Solutions.{IsLeast, NoneAbove}

-- the truth of a clause in a space
abbrev pub clause_in : World → List Abs → Clause → Tri
clause_in w space = clause_truth (size_of w) (in_space w space) []

-- the clauses without a head
abbrev pub residual_clauses : List Clause → List Clause
residual_clauses = filter is_residual

-- whether none of them is surely false
abbrev pub passes : World → List Clause → List Abs → Bool
passes w clauses space = list_all (λ c. not (is_false (clause_in w space c))) (residual_clauses clauses)

-- a walk through a space: none where no space above meets all tasks; else the least that does, and then nothing where a
-- residual clause is false in it, its schedule where it is single, and else the walks through its two sides
pub data Walk (w : World) (clauses : List Clause) : List Abs → List Item → Type 0 where
  Nothing : (s : List Abs) → NoneAbove w clauses s → Walk w clauses s []
  Dropped : (s t : List Abs) → IsLeast w clauses s t → passes w clauses t ≡ false → Walk w clauses s (node t ∷ [])
  One : (s t : List Abs) → IsLeast w clauses s t → passes w clauses t ≡ true → split_cell t ≡ None → Walk w clauses s (node t ∷ schedule (map least_in t) ∷ [])
  Both : (s t : List Abs) (k : ℕ) (a b : List Item) → IsLeast w clauses s t → passes w clauses t ≡ true → split_cell t ≡ Some k
      → Walk w clauses (left t) a → Walk w clauses (right t) b → Walk w clauses s (node t ∷ a ++ b)

-- the walk through this space; nothing where there is none
abbrev pub WalkFrom : World → List Clause → Option (List Abs) → List Item → Type 0
WalkFrom w clauses None items = items ≡ []
WalkFrom w clauses (Some s) items = Walk w clauses s items

-- the walk through the space of all schedules
abbrev pub WholeWalk : World → List Clause → List Item → Type 0
WholeWalk w clauses = WalkFrom w clauses (initial w)
