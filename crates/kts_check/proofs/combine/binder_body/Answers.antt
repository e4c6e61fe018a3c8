use Rattle.std.proofs.Common.{◌∙◌, sym, inr}
use Rattle.std.proofs.lemmas.Result.{err_from_is_err_and}
use Rattle.kts_check.proofs.BodyLemmas.{body_none, body_only}
use Rattle.kts_check.proofs.combine.binder_body.Goals as goal

pub returns-then-is_empty : goal.returns-then-is_empty
returns-then-is_empty c = rw c.fail.ensures (inr (body_none c.args.at c.args.indexes.now c.args.formulas c.if-is_empty.ensures))

pub returns-in_err-p : goal.returns-in_err-p
returns-in_err-p c =
    let p = err_from_is_err_and c.from_residual.result c.from_residual.ensures.1 in
    rw (p.1, p.2) (inr (body_only c.args.at c.args.indexes.now c.args.formulas c.if-is_empty.ensures ∙ sym c.in_err-p.ensures))

pub returns : goal.returns
returns c = rw c.in_ok-new.ensures (body_only c.args.at c.args.indexes.now c.args.formulas c.if-is_empty.ensures ∙ sym c.in_ok-p.ensures)
