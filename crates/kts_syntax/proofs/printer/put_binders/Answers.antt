use Rattle.std.proofs.Common.{◌+◌, drop, map}
use Rattle.std.proofs.lemmas.Result.{err_from_is_err_and}
use Rattle.kts_base.proofs.Pieces.{goes_on, stops, ends}
use Rattle.kts_syntax.specs.Texts.{spaced, binder_text}
use Rattle.kts_syntax.proofs.TextLemmas.{spaced_here, spaced_end}
use Rattle.kts_syntax.proofs.printer.put_binders.Goals as goal

pub returns-in_err-put_binder : goal.returns-in_err-put_binder
returns-in_err-put_binder g c =
    let p = err_from_is_err_and c.from_residual.result c.from_residual.ensures.1 in
    rw p.1 (stops (spaced (map binder_text (drop (c.loop-binder.binder-index + 1) c.args.binders.now))) c.loop-binder.invariant
    (spaced_here binder_text c.args.binders.now c.loop-binder.binder-index c.binder-item.result c.loop-binder-test.true c.binder-item.is) c.in_err-put_binder.ensures)

pub loop-binder-preserved : goal.loop-binder-preserved
loop-binder-preserved g c =
    goes_on (spaced (map binder_text (drop (c.loop-binder.binder-index + 1) c.args.binders.now))) c.loop-binder.invariant
    (spaced_here binder_text c.args.binders.now c.loop-binder.binder-index c.binder-item.result c.loop-binder-test.true c.binder-item.is) c.in_ok-put_binder.ensures

pub returns : goal.returns
returns g c = ends c.loop-binder.invariant (spaced_end _ _ _ c.loop-binder-test.false)
