use Rattle.std.proofs.Common.{◌∙◌, ap, slice_index_or}
use Rattle.kts_machine.specs.TaskQueues.{with_task}
use Rattle.kts_machine.proofs.Wakes.{queued-next}
use Rattle.kts_machine.proofs.queue.Queue.wake_all.Goals as goal

pub loop-task-preserved : goal.loop-task-preserved
loop-task-preserved c =
    c.push.ensures ∙ ap (with_task (slice_index_or c.args.tasks.now c.loop-task.task-index 0)) c.loop-task.invariant
    ∙ queued-next c.args.self.now.count c.args.tasks.now c.args.self.now.waiting c.loop-task.task-index c.requires.distinct c.loop-task-test.true
