-- What the patterns of a plan pair.
use Rattle.std.specs.Prelude.{◌≡◌, Some, slice_get}
use Rattle.kts_classify.specs.PlanPatterns.{constraints_in, patterns_of}
use Rattle.kts_index.specs.Pairs.{is_paired}
use Rattle.kts_index.specs.TaskOrder.{Task}
use Rattle.kts_plan.specs.TaskReads.{some_reads}
use Rattle.kts_plan.specs.declared.plan.Plan.{Plan}
use Rattle.kts_spec.specs.Schedules.{Cell}

-- they pair a task with a cell exactly where one of the accesses that its constraint reads names the cell's choice, and agrees
-- with the cell in each argument that is a variable of the prefix
abbrev pub PatternsPair : Plan → Task → Cell → Type 0
PatternsPair plan task cell =
    is_paired (patterns_of plan) cell.choice cell.args task
    ≡ some_reads (slice_get (constraints_in plan) task.definite) task.tuple (Some cell)
