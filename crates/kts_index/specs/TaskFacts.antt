-- Which task has which number, and which tasks are paired with a cell.
use Rattle.std.specs.Prelude.{◌≡◌, ◌<◌, ◌↔◌, ℕ, ◌+◌, pos, List, [], length, map, true, Some, slice_get, slice_index_or}
use Rattle.std.specs.List.{Any, Contains}
use Rattle.kts_spec.specs.declared.schema.Schema.{Schema}
use Rattle.kts_spec.specs.declared.instance.Instance.{Instance}
use Rattle.kts_spec.specs.Data.{task_count}
use Rattle.kts_spec.specs.Places.{place}
use Rattle.kts_spec.specs.Worlds.{World, world_of}
use Rattle.kts_index.specs.declared.pattern.Pattern.{Pattern}
use Rattle.kts_index.specs.Pairs.{is_paired, is_pair, pairs}
use Rattle.kts_index.specs.TaskOrder.{Task, sizes_of_prefix, tasks, task_at, tasks_before}

-- a task whose number is t: its tuple is one of its constraint, and stands so many places after the tasks of earlier ones
pub record IsTask (w : World) (prefixes : List (List ℕ)) (t : ℕ) (task : Task) : Type 0 where
  pub declared : task.definite < length prefixes
  pub at : ℕ
  pub placed : place (sizes_of_prefix w (slice_index_or prefixes task.definite [])) (map pos task.tuple) ≡ Some at
  pub number : t ≡ tasks_before w prefixes task.definite + at

-- the t-th task is the one whose number is t
pub record TasksHaveNumbers (w : World) (prefixes : List (List ℕ)) : Type 0 where
  pub count : length (tasks w prefixes) ≡ task_count w prefixes
  pub at : (t : ℕ) (task : Task) → (slice_get (tasks w prefixes) t ≡ Some task) ↔ IsTask w prefixes t task
  pub found : (t : ℕ) → t < task_count w prefixes → IsTask w prefixes t (task_at w prefixes t)

-- a pattern pairs a task with the cell of a choice at these members: where one of its arguments names a variable,
-- the task has there the member that the cell has in that argument
pub record IsPairedBy (p : Pattern) (x : ℕ) (cell : List ℕ) (task : Task) : Type 0 where
  pub definite : p.definite ≡ task.definite
  pub choice : p.choice ≡ x
  pub members : (j k m : ℕ) → slice_get p.args j ≡ Some (Some k) → slice_get cell j ≡ Some m → slice_get task.tuple k ≡ Some m

-- a task is paired with a cell exactly where some pattern pairs it
abbrev pub SomePatternPairs : List Pattern → ℕ → List ℕ → Task → Type 0
SomePatternPairs patterns x cell task =
    (is_paired patterns x cell task ≡ true) ↔ Any (λ p. IsPairedBy p x cell task) patterns

-- the tasks that are paired with a cell rise, so that each is there once, and are those that some pattern pairs
pub record PairsAreTasks (patterns : List Pattern) (schema : Schema) (inst : Instance) (x : ℕ) (cell : List ℕ) : Type 0 where
  pub rise : (j k a b : ℕ) → slice_get (pairs patterns schema inst x cell) j ≡ Some a → slice_get (pairs patterns schema inst x cell) k ≡ Some b → j < k → a < b
  pub exact : (t : ℕ) → Contains (pairs patterns schema inst x cell) t
      ↔ ((t < task_count (world_of schema inst) schema.tasks) × (is_pair patterns schema inst x cell t ≡ true))
