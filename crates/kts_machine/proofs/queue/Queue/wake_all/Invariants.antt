use Rattle.std.proofs.Common.{◌≡◌, take}
use Rattle.kts_code.specs.Queues.{queued}
use Rattle.kts_machine.proofs.queue.Queue.wake_all.Given as goal

abbrev pub invariant-loop-task : goal.invariant-loop-task
invariant-loop-task l = l.self ≡ record l.initial.self { waiting = queued (take l.task-index l.tasks) l.initial.self.waiting }
