use Rattle.std.proofs.Common.{◌∙◌, ap}
use Rattle.kts_machine.specs.TaskQueues.{with_task}
use Rattle.kts_machine.proofs.Wakes.{filled-more}
use Rattle.kts_machine.proofs.queue.Queue.fill.Goals as goal

pub loop-task-preserved : goal.loop-task-preserved
loop-task-preserved c = c.push.ensures ∙ ap (with_task c.loop-task.task) c.loop-task.invariant ∙ filled-more c.args.self.now.count c.loop-task.task
