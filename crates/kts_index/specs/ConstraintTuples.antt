-- The tuples of a constraint, by their numbers.
use Rattle.std.specs.Prelude.{ℕ, List, Bool, Option}
use Rattle.kts_index.specs.declared.tuples.Tuples.{Tuples}
use Rattle.kts_index.specs.Pairs.{arguments_agree}
use Rattle.kts_index.specs.TaskOrder.{Task}
use Rattle.kts_index.specs.TupleNumbers.{sizes_in, tuple_at}

-- the tuple of a number
abbrev pub tuple_in : Tuples → ℕ → List ℕ
tuple_in t p = tuple_at (sizes_in t.inst.now t.prefix.now) p

-- whether it agrees with the arguments of a pattern, where the cell has these members
abbrev pub agrees_in : Tuples → List (Option ℕ) → List ℕ → ℕ → Bool
agrees_in t args cell p = arguments_agree (tuple_in t p) args cell

-- its task, where the constraint has this number
abbrev pub task_in : Tuples → ℕ → ℕ → Task
task_in t d p = record { definite = d; tuple = tuple_in t p }
