use Rattle.std.proofs.Common.{◌≡◌, ◌<◌, ◌++◌, ◌∷◌, [], sym, ◌∙◌, ap, subst, append_assoc, rules, All}
use Rattle.kts_machine.specs.TaskQueues.{TaskQueue, IsBelow, AreDistinct, with_task}
use Rattle.kts_machine.proofs.Wakes.{queued-more, not_passed, All-next}
use Rattle.kts_machine.proofs.queue.Queue.wake.Goals as goal

whole : (c : goal.After-push-arg-1) → c.loop-task.yielded ++ c.in-Some.task ∷ c.next.new.self ≡ c.args.tasks
whole c =
    let steps : c.loop-task.task-iterator ≡ c.in-Some.task ∷ c.next.new.self = c.in-Some.ensures.steps in
    ap (λ ts. c.loop-task.yielded ++ ts) (sym steps) ∙ c.loop-task.invariant.whole ∙ search rules

pub push-requires : goal.push-requires
push-requires c =
    let below = All-next (IsBelow c.args.self.now.count) c.loop-task.yielded c.next.new.self c.in-Some.task (subst (All (IsBelow c.args.self.now.count)) (sym (whole c)) c.requires.below) in
    subst (λ (q : TaskQueue). c.in-Some.task < q.count) (sym c.loop-task.invariant.woken) below

pub loop-task-preserved : goal.loop-task-preserved
loop-task-preserved c =
    let steps : c.loop-task.task-iterator ≡ c.in-Some.task ∷ c.next.new.self = c.in-Some.ensures.steps in
    let all : c.loop-task.yielded ++ c.in-Some.task ∷ c.next.new.self ≡ c.args.tasks =
    ap (λ ts. c.loop-task.yielded ++ ts) (sym steps) ∙ c.loop-task.invariant.whole ∙ search rules in
    let absent = not_passed c.loop-task.yielded c.next.new.self c.in-Some.task (subst AreDistinct (sym all) c.requires.distinct) in
    record {
      woken = c.push.ensures ∙ ap (with_task c.in-Some.task) c.loop-task.invariant.woken ∙ queued-more c.args.self.now.count c.loop-task.yielded c.args.self.now.waiting c.in-Some.task absent;
      whole = append_assoc c.loop-task.yielded (c.in-Some.task ∷ []) c.next.new.self ∙ ap (λ ts. c.loop-task.yielded ++ ts) (sym steps) ∙ c.loop-task.invariant.whole;
    }
