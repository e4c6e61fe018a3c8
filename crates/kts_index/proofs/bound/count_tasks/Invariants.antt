use Rattle.std.proofs.Common.{◌≡◌, ◌+◌, length}
use Rattle.kts_index.proofs.bound.count_tasks.Given as goal

-- the tasks so far and those that are left are all of them
abbrev pub invariant-loop-task : goal.invariant-loop-task
invariant-loop-task l = l.count + length l._task-iterator ≡ length l.initial._task-iterator
