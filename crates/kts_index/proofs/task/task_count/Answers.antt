use Rattle.kts_index.proofs.ValidData.{tasks_few}
use Rattle.kts_index.proofs.task.task_count.Goals as goal

pub returns-clause-few : goal.returns-clause-few
returns-clause-few c = rw c.loop-definite.invariant (tasks_few c.args.schema.now c.args.inst.now c.requires c.loop-definite.definite)
