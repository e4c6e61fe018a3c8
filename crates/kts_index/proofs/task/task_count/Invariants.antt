use Rattle.std.proofs.Common.{◌≡◌, take}
use Rattle.kts_spec.specs.Data.{task_count}
use Rattle.kts_spec.specs.Worlds.{world_of}
use Rattle.kts_index.proofs.task.task_count.Given as goal

abbrev pub invariant-loop-definite : goal.invariant-loop-definite
invariant-loop-definite l = l.total ≡ task_count (world_of l.schema l.inst) (take l.definite l.schema.tasks)
