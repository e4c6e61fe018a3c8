-- Where the tasks that are paired with a cell are given from.
use Rattle.std.specs.Prelude.{◌≡◌, ℕ, ◌+◌, ◌-◌, ◌<◌, ◌≤◌, List, [], length, slice_index_or, true}
use Rattle.std.specs.List.{filter, range_with_len}
use Rattle.kts_spec.specs.declared.schema.Schema.{Schema}
use Rattle.kts_spec.specs.declared.instance.Instance.{Instance}
use Rattle.kts_spec.specs.Data.{is_valid}
use Rattle.kts_spec.specs.Places.{count_of}
use Rattle.kts_spec.specs.Worlds.{world_of}
use Rattle.kts_index.specs.declared.pattern.Pattern.{Pattern}
use Rattle.kts_index.specs.Pairs.{is_pair}
use Rattle.kts_index.specs.TaskOrder.{tasks, tasks_before, sizes_of_prefix}

-- the numbers, from t on, of the tasks that are paired with a cell
unfoldable pub pairs_from : List Pattern → Schema → Instance → ℕ → List ℕ → ℕ → List ℕ
pairs_from patterns schema inst x cell t =
    filter (is_pair patterns schema inst x cell) (range_with_len t (length (tasks (world_of schema inst) schema.tasks) - t))

-- the tasks of a constraint begin with number `start`, and `next` is the number of one of them or the one after them
pub record IsCursor (schema : Schema) (inst : Instance) (definite start next : ℕ) : Type 0 where
  pub valid : is_valid schema inst ≡ true
  pub within : definite ≤ length schema.tasks
  pub starts : start ≡ tasks_before (world_of schema inst) schema.tasks definite
  pub after : start ≤ next
  pub before : definite < length schema.tasks → next ≤ start + count_of (sizes_of_prefix (world_of schema inst) (slice_index_or schema.tasks definite []))
  pub ends : definite ≡ length schema.tasks → next ≡ start
