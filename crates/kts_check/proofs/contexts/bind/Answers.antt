use Rattle.std.proofs.Common.{sym, inr}
use Rattle.std.proofs.lemmas.Result.{err_from_is_err_and}
use Rattle.kts_check.proofs.ContextLemmas.{bind_fails, bind_on, bind_end}
use Rattle.kts_check.proofs.contexts.bind.Goals as goal

pub returns-in_err-i : goal.returns-in_err-i
returns-in_err-i c =
    let p = err_from_is_err_and c.from_residual.result c.from_residual.ensures.1 in
    rw (p.1, p.2) (inr (bind_fails c.args.names.now.entries c.args.own.now _ c.args.binders.now c.loop-binder.binder-index c.binder-item.result _ _ c.loop-binder-test.true c.binder-item.is (sym c.in_err-i.ensures.index) c.loop-binder.invariant))

pub loop-binder-preserved : goal.loop-binder-preserved
loop-binder-preserved c =
    bind_on c.args.names.now.entries c.args.own.now _ c.args.binders.now c.loop-binder.binder-index c.binder-item.result c.in_ok-i.i _ _ _ _ c.loop-binder-test.true c.binder-item.is (sym c.in_ok-i.ensures.index)
    (rw c.name.ensures at c.in_ok-push.ensures) c.in_ok-push-2.ensures.ok c.further-way.ensures c.loop-binder.invariant

pub returns : goal.returns
returns c = bind_end c.args.names.now.entries c.args.own.now _ c.args.binders.now c.loop-binder.binder-index _ c.loop-binder-test.false c.loop-binder.invariant
