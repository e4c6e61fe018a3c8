use Rattle.std.proofs.Common.{◌≡◌, ◌<◌, sym, subst, false, length, slice_index_or}
use Rattle.kts_machine.specs.TaskQueues.{TaskQueue}
use Rattle.kts_machine.proofs.QueueMarks.{IsMarked-push, mark_read, kept_push, with_task-new}
use Rattle.kts_machine.proofs.queue.Queue.push.Goals as goal

unmarked : (c : goal.After-push_back) → slice_index_or c.self.inside.marks.items c.args.task false ≡ false
unmarked c = mark_read c.self.inside.marks.items c.args.task c.index.result.now c.index.ensures c.if-index.false

within : (c : goal.After-push_back) → c.args.task < length c.self.inside.marks.items
within c = subst (λ (q : TaskQueue). c.args.task < q.count) (sym c.self.view_is) c.requires

pub invariant_of-self : goal.invariant_of-self
invariant_of-self c =
    rw (c.push_back.ensures.items, kept_push c.self.inside.marks.items c.self.inside.ring.items c.self.inside.ring.capacity c.args.task c.self.invariant (within c) (unmarked c))
    (IsMarked-push c.self.inside.marks.items c.self.inside.ring.items c.self.inside.ring.capacity c.args.task c.self.invariant (within c) (unmarked c))

pub returns : goal.returns
returns c =
    rw (c.push_back.ensures.items, kept_push c.self.inside.marks.items c.self.inside.ring.items c.self.inside.ring.capacity c.args.task c.self.invariant (within c) (unmarked c), ← c.self.view_is)
    (with_task-new c.self.inside.marks.items c.self.inside.ring.items c.self.inside.ring.capacity c.args.task c.self.invariant (unmarked c))
