use Rattle.std.proofs.Common.{◌≡◌, ◌∙◌, ap, sym, subst, All}
use Rattle.kts_index.specs.Pairs.{pairs}
use Rattle.kts_machine.specs.TaskQueues.{IsBelow, AreDistinct}
use Rattle.kts_machine.proofs.WokenTasks.{readers_below, readers_distinct}
use Rattle.kts_machine.proofs.waking.wake_readers.Goals as goal

tasks_are : (c : goal.After-tasks_of) → c.tasks_of.result ≡ pairs c.args.code.now.index c.args.code.now.schema c.args.inst.now c.args.choice c.args.tuple.now
tasks_are c =
    c.tasks_of.ensures ∙ ap (λ ps. pairs ps c.schema.result.now c.args.inst.now c.args.choice c.args.tuple.now) c.index.ensures
    ∙ ap (λ s. pairs c.args.code.now.index s c.args.inst.now c.args.choice c.args.tuple.now) c.schema.ensures

pub wake-requires-clause-below : goal.wake-requires-clause-below
wake-requires-clause-below c =
    subst (All (IsBelow c.args.queue.now.count)) (sym (tasks_are c))
    (readers_below c.args.code.now.index c.args.code.now.schema c.args.inst.now c.args.choice c.args.tuple.now c.args.queue.now.count c.requires.tasks)

pub wake-requires-clause-distinct : goal.wake-requires-clause-distinct
wake-requires-clause-distinct c =
    subst AreDistinct (sym (tasks_are c)) (readers_distinct c.args.code.now.index c.args.code.now.schema c.args.inst.now c.args.choice c.args.tuple.now)
