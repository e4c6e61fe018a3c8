use Rattle.std.proofs.Common.{◌≡◌, ◌++◌}
use Rattle.kts_index.specs.Pairs.{pairs}
use Rattle.kts_machine.proofs.readers.readers_at.Given as goal

abbrev pub invariant-loop-task : goal.invariant-loop-task
invariant-loop-task l = l.list ++ l.task-iterator ≡ pairs l.code.index l.code.schema l.inst l.choice l.tuple
