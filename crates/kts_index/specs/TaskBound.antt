-- The tasks and those that rises of cells wake, counted.
use Rattle.std.specs.Prelude.{ℕ, ◌+◌, ◌-◌, ◌*◌, List, length, sum_by}
use Rattle.kts_spec.specs.declared.declarations.ValueType.{ValueType}
use Rattle.kts_spec.specs.declared.schema.Schema.{Schema}
use Rattle.kts_spec.specs.declared.instance.Instance.{Instance}
use Rattle.kts_spec.specs.Schedules.{Cell, cells, values_of}
use Rattle.kts_spec.specs.Worlds.{World, world_of}
use Rattle.kts_index.specs.declared.pattern.Pattern.{Pattern}
use Rattle.kts_index.specs.Pairs.{pairs}
use Rattle.kts_index.specs.TaskOrder.{tasks}

-- how often a cell of this type can rise: each rise takes a value from it, and one is left
abbrev pub rises_of : World → ValueType → ℕ
rises_of w kind = length (values_of w kind) - 1

-- the tasks that are paired with a cell, each as often as the cell can rise
abbrev pub cell_bound : List Pattern → Schema → Instance → Cell → ℕ
cell_bound patterns schema inst c = length (pairs patterns schema inst c.choice c.args) * rises_of (world_of schema inst) c.kind

-- each task once, and again at each rise of a cell that it is paired with
unfoldable pub bound : List Pattern → Schema → Instance → ℕ
bound patterns schema inst = length (tasks (world_of schema inst) schema.tasks) + sum_by (cell_bound patterns schema inst) (cells (world_of schema inst))
