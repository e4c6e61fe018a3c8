use Rattle.std.proofs.Common.{◌≡◌, ◌∙◌, ap, sym, subst, length, List, ℕ, All}
use Rattle.std.specs.Prelude.{◌==◌}
use Rattle.kts_index.specs.declared.pattern.Pattern.{Pattern}
use Rattle.kts_code.specs.Queues.{readers, queued}
use Rattle.kts_code.specs.Setups.{setup_of, cell_of}
use Rattle.kts_machine.specs.TaskQueues.{TaskQueue, IsBelow, AreDistinct}
use Rattle.kts_machine.proofs.WokenTasks.{kept_list, readers_below, readers_distinct, woken_by_none, none_in}
use Rattle.kts_machine.proofs.waking.wake.Goals as goal

queue_with : TaskQueue → List ℕ → TaskQueue
queue_with q waiting = record q { waiting = waiting }

pub returns-then-is_empty : goal.returns-then-is_empty
unfolding queue_with
returns-then-is_empty c =
    let same = c.as_slice.ensures ∙ c.patterns.ensures ∙ c.index.ensures in
    let none = none_in c.args.code.now.index (ap (λ (ps : List Pattern). length ps == 0) (sym same) ∙ sym c.is_empty.ensures ∙ c.if-is_empty.true) in
    ap (queue_with c.args.queue.now) (sym (woken_by_none (setup_of c.args.code.now c.args.inst.now) c.args.k c.args.queue.now.waiting none))

list_is : (c : goal.After-as_slice-then-k-lists) → c.as_slice-then-k-lists.result.now ≡ readers (setup_of c.args.code.now c.args.inst.now) c.args.k
list_is c =
    c.as_slice-then-k-lists.ensures ∙ kept_list c.args.code.now c.args.inst.now c.args.readers.now c.as_slice-lists.result.now c.args.k c.index-lists-k.result
    c.requires.readers c.as_slice-lists.ensures c.if-k-lists.true c.index-lists-k.is

pub wake_all-requires-clause-below : goal.wake_all-requires-clause-below
wake_all-requires-clause-below c =
    let cell = cell_of (setup_of c.args.code.now c.args.inst.now) c.args.k in
    subst (All (IsBelow c.args.queue.now.count)) (sym (list_is c))
    (readers_below c.args.code.now.index c.args.code.now.schema c.args.inst.now cell.choice cell.args c.args.queue.now.count c.requires.tasks)

pub wake_all-requires-clause-distinct : goal.wake_all-requires-clause-distinct
wake_all-requires-clause-distinct c =
    let cell = cell_of (setup_of c.args.code.now c.args.inst.now) c.args.k in
    subst AreDistinct (sym (list_is c)) (readers_distinct c.args.code.now.index c.args.code.now.schema c.args.inst.now cell.choice cell.args)

pub returns-then-k-lists : goal.returns-then-k-lists
unfolding queue_with
returns-then-k-lists c =
    let same : c.as_slice-then-k-lists.result.now ≡ readers (setup_of c.args.code.now c.args.inst.now) c.args.k = c.as_slice-then-k-lists.ensures ∙ kept_list c.args.code.now c.args.inst.now c.args.readers.now c.as_slice-lists.result.now c.args.k c.index-lists-k.result
    c.requires.readers c.as_slice-lists.ensures c.if-k-lists.true c.index-lists-k.is in
    c.wake_all.ensures ∙ ap (λ l. queue_with c.args.queue.now (queued l c.args.queue.now.waiting)) same
