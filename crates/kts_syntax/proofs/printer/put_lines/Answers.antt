use Rattle.std.proofs.Common.{◌+◌, ◌∷◌, [], drop}
use Rattle.std.proofs.lemmas.Result.{err_from_is_err_and}
use Rattle.kts_base.proofs.Pieces.{both, stops_first, stops_later, goes_on, stops, ends}
use Rattle.kts_syntax.specs.Texts.{lines_text}
use Rattle.kts_syntax.proofs.TextLemmas.{lines_here, lines_end}
use Rattle.kts_syntax.proofs.printer.put_lines.Goals as goal

pub returns-in_err-put_form : goal.returns-in_err-put_form
returns-in_err-put_form g c =
    let p = err_from_is_err_and c.from_residual.result c.from_residual.ensures.1 in
    rw p.1 (stops (lines_text (drop (c.loop-form.form-index + 1) c.args.forms.now)) c.loop-form.invariant
    (lines_here c.args.forms.now c.loop-form.form-index c.form-item.result c.loop-form-test.true c.form-item.is) (stops_first (10 ∷ []) c.in_err-put_form.ensures))

pub returns-in_err-put : goal.returns-in_err-put
returns-in_err-put g c =
    let p = err_from_is_err_and c.from_residual-in_err-put.result c.from_residual-in_err-put.ensures.1 in
    rw p.1 (stops (lines_text (drop (c.loop-form.form-index + 1) c.args.forms.now)) c.loop-form.invariant
    (lines_here c.args.forms.now c.loop-form.form-index c.form-item.result c.loop-form-test.true c.form-item.is) (stops_later c.in_ok-put_form.ensures c.in_err-put.ensures.wrote))

pub loop-form-preserved : goal.loop-form-preserved
loop-form-preserved g c =
    goes_on (lines_text (drop (c.loop-form.form-index + 1) c.args.forms.now)) c.loop-form.invariant
    (lines_here c.args.forms.now c.loop-form.form-index c.form-item.result c.loop-form-test.true c.form-item.is) (both c.in_ok-put_form.ensures c.in_ok-put.ensures.wrote)

pub returns : goal.returns
returns g c = ends c.loop-form.invariant (lines_end _ _ c.loop-form-test.false)
