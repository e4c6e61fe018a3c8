use Rattle.std.proofs.Common.{◌∙◌, ap, arith, List, ℕ}
use Rattle.kts_machine.specs.Items.{items_of}
use Rattle.kts_machine.specs.TaskQueues.{TaskQueue}
use Rattle.kts_machine.proofs.WokenTasks.{owner_few, owner_woken}
use Rattle.kts_machine.proofs.waking.wake_tasks.Goals as goal

pub overflow_cast-choice : goal.overflow_cast-choice
overflow_cast-choice c =
    let few = owner_few c.args.code.now c.args.inst.now c.args.k c.owner-x.result.0 c.schema.result.now (items_of c.owner-x.result.1) c.schema.ensures c.owner-x.ensures c.requires.valid in
    omega (arith, few)

queue_with : TaskQueue → List ℕ → TaskQueue
queue_with q waiting = record q { waiting = waiting }

pub returns-in-Zero : goal.returns-in-Zero
unfolding queue_with
returns-in-Zero c = c.wake_readers.ensures ∙ ap (queue_with c.args.queue.now)
    (owner_woken c.args.code.now c.args.inst.now c.args.k c.owner-x.result.0 c.schema.result.now (items_of c.owner-x.result.1) c.schema.ensures c.owner-x.ensures _ c.args.queue.now.waiting (ap items_of c.in-Zero.is))

pub returns-in-One : goal.returns-in-One
unfolding queue_with
returns-in-One c = c.wake_readers-in-One.ensures ∙ ap (queue_with c.args.queue.now)
    (owner_woken c.args.code.now c.args.inst.now c.args.k c.owner-x.result.0 c.schema.result.now (items_of c.owner-x.result.1) c.schema.ensures c.owner-x.ensures _ c.args.queue.now.waiting (ap items_of c.in-One.is))

pub returns-in-Two : goal.returns-in-Two
unfolding queue_with
returns-in-Two c = c.wake_readers-in-Two.ensures ∙ ap (queue_with c.args.queue.now)
    (owner_woken c.args.code.now c.args.inst.now c.args.k c.owner-x.result.0 c.schema.result.now (items_of c.owner-x.result.1) c.schema.ensures c.owner-x.ensures _ c.args.queue.now.waiting (ap items_of c.in-Two.is))
