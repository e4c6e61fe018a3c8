use Rattle.std.proofs.Common.{◌≡◌, ◌++◌}
use Rattle.kts_code.specs.Queues.{queued}
use Rattle.kts_machine.proofs.queue.Queue.wake.Given as goal

abbrev pub invariant-loop-task : goal.invariant-loop-task
invariant-loop-task l = record {
  woken : l.self ≡ record l.initial.self { waiting = queued l.yielded l.initial.self.waiting };
  whole : l.yielded ++ l.task-iterator ≡ l.initial.task-iterator;
}
