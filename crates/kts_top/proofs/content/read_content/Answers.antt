use Rattle.std.proofs.lemmas.Result.{err_from_is_err_and}
use Rattle.kts_top.proofs.Readings.{tree_fault, form_fault, type_fault, content_read}
use Rattle.kts_top.proofs.content.read_content.Goals as goal

pub returns-in_err-trees-clause-content : goal.returns-in_err-trees-clause-content
returns-in_err-trees-clause-content c =
    let p = err_from_is_err_and c.from_residual.result c.from_residual.ensures.1 in
    rw (p.1, p.2) (tree_fault c.args.bytes.now _ c.in_err-trees.ensures.value)

pub returns-in_err-forms-clause-content : goal.returns-in_err-forms-clause-content
returns-in_err-forms-clause-content c =
    let p = err_from_is_err_and c.from_residual-in_err-forms.result c.from_residual-in_err-forms.ensures.1 in
    rw (p.1, p.2) (form_fault c.args.bytes.now _ _ c.in_ok-trees.ensures.value c.in_err-forms.ensures.value)

pub returns-in_err-spec-clause-content : goal.returns-in_err-spec-clause-content
returns-in_err-spec-clause-content c =
    let p = err_from_is_err_and c.from_residual-in_err-spec.result c.from_residual-in_err-spec.ensures.1 in
    rw (p.1, p.2) (type_fault c.args.bytes.now _ _ _ c.in_ok-trees.ensures.value c.in_ok-forms.ensures.value c.in_err-spec.ensures.parts)

pub returns-clause-content : goal.returns-clause-content
returns-clause-content c = content_read c.args.bytes.now _ _ _ c.in_ok-trees.ensures.value c.in_ok-forms.ensures.value c.in_ok-spec.ensures.parts

pub returns-clause-made : goal.returns-clause-made
returns-clause-made c = record { is = c.in_ok-spec.ensures.whole; tasks = c.in_ok-spec.ensures.tasks; small = c.in_ok-spec.ensures.small }
