use Rattle.std.proofs.Common.{◌≡◌, ◌≤◌}
use Rattle.kts_index.specs.TaskOrder.{tasks_before}
use Rattle.kts_spec.specs.Worlds.{world_of}
use Rattle.kts_index.proofs.task.place_of.Given as goal

abbrev pub invariant-loop-definite : goal.invariant-loop-definite
invariant-loop-definite l = record {
  begins : l.start ≡ tasks_before (world_of l.schema l.inst) l.schema.tasks l.definite;
  after : l.start ≤ l.number;
}
