use Rattle.std.proofs.lemmas.Result.{err_from_is_err_and}
use Rattle.kts_base.proofs.Pieces.{after, stops_first}
use Rattle.kts_plan.specs.Plans.{clauses_of_spec}
use Rattle.kts_top.specs.ClassifyTexts.{totals_line}
use Rattle.kts_top.proofs.classification.put_classification.Goals as goal

pub returns-in_err-put_clauses : goal.returns-in_err-put_clauses
returns-in_err-put_clauses g c =
    let p = err_from_is_err_and c.from_residual.result c.from_residual.ensures.1 in
    rw p.1 (stops_first (totals_line (clauses_of_spec c.args.spec.now)) (rw c.requires.clauses at c.in_err-put_clauses.ensures))

pub returns : goal.returns
returns g c =
    after c.put_pieces.result _ (totals_line (clauses_of_spec c.args.spec.now)) (rw c.requires.clauses at c.in_ok-put_clauses.ensures)
    (rw (c.as_bytes.ensures.value, c.format.ensures.text, c.len.ensures, c.definites.ensures, c.requires.definites, c.as_bytes-2.ensures.value, c.format-2.ensures.text, c.len-2.ensures, c.residuals.ensures, c.requires.residuals) at c.put_pieces.ensures)
