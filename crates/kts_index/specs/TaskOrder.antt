-- The tasks of a schema on data, in their order.
use Rattle.std.specs.Prelude.{ℕ, List, [], map, take, flat_map, slice_index_or}
use Rattle.std.specs.List.{enumerate_from}
use Rattle.kts_spec.specs.Data.{task_count}
use Rattle.kts_spec.specs.Schedules.{tuples}
use Rattle.kts_spec.specs.Worlds.{World, size_of}

-- a constraint, by its number, with a tuple of members for the variables of its prefix
pub record Task : Type 0 where
  pub definite : ℕ
  pub tuple : List ℕ

-- the numbers of members of the indexes of a prefix
abbrev pub sizes_of_prefix : World → List ℕ → List ℕ
sizes_of_prefix w prefix = map (size_of w) prefix

-- the tasks of a constraint, its tuples in lexicographic order
abbrev pub tasks_of_constraint : World → ℕ × List ℕ → List Task
tasks_of_constraint w (d, prefix) = map (λ tuple. record { definite = d; tuple = tuple }) (tuples (sizes_of_prefix w prefix))

-- the tasks of all constraints, in the order of the constraints
abbrev pub tasks : World → List (List ℕ) → List Task
tasks w prefixes = flat_map (tasks_of_constraint w) (enumerate_from 0 prefixes)

-- the task of this number
abbrev pub task_at : World → List (List ℕ) → ℕ → Task
task_at w prefixes t = slice_index_or (tasks w prefixes) t (record { definite = 0; tuple = [] })

-- how many tasks the first so many constraints have
abbrev pub tasks_before : World → List (List ℕ) → ℕ → ℕ
tasks_before w prefixes d = task_count w (take d prefixes)
