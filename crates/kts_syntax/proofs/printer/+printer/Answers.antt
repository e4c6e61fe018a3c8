use Rattle.std.proofs.Common.{◌∙◌, ◌+◌, ◌++◌, ◌∷◌, [], drop, map}
use Rattle.std.proofs.lemmas.Result.{err_from_is_err_and}
use Rattle.kts_base.proofs.Pieces.{both, after, stops_first, stops_later, goes_on, stops, ends}
use Rattle.kts_syntax.specs.Texts.{spaced, binder_text, head_text, expr_text}
use Rattle.kts_syntax.proofs.TextLemmas.{spaced_here, spaced_end, alone, not_alone}
use Rattle.kts_syntax.proofs.printer.+printer.Goals as goal

pub put_parts-returns-in_err-put : goal.put_parts-returns-in_err-put
put_parts-returns-in_err-put g t c =
    let p = err_from_is_err_and c.from_residual.result c.from_residual.ensures.1 in
    rw p.1 (stops (spaced (map expr_text (drop (c.loop-part.part-index + 1) c.args.parts.now))) c.loop-part.invariant
    (spaced_here expr_text c.args.parts.now c.loop-part.part-index c.part-item.result c.loop-part-test.true c.part-item.is)
    (stops_first (expr_text c.part-item.result) c.in_err-put.ensures.wrote))

pub put_parts-returns-in_err-put_expr : goal.put_parts-returns-in_err-put_expr
put_parts-returns-in_err-put_expr g t c =
    let p = err_from_is_err_and c.from_residual-in_err-put_expr.result c.from_residual-in_err-put_expr.ensures.1 in
    rw p.1 (stops (spaced (map expr_text (drop (c.loop-part.part-index + 1) c.args.parts.now))) c.loop-part.invariant
    (spaced_here expr_text c.args.parts.now c.loop-part.part-index c.part-item.result c.loop-part-test.true c.part-item.is)
    (stops_later c.in_ok-put.ensures.wrote c.in_err-put_expr.ensures))

pub put_parts-loop-part-preserved : goal.put_parts-loop-part-preserved
put_parts-loop-part-preserved g t c =
    goes_on (spaced (map expr_text (drop (c.loop-part.part-index + 1) c.args.parts.now))) c.loop-part.invariant
    (spaced_here expr_text c.args.parts.now c.loop-part.part-index c.part-item.result c.loop-part-test.true c.part-item.is)
    (both c.in_ok-put.ensures.wrote c.in_ok-put_expr.ensures)

pub put_parts-returns : goal.put_parts-returns
put_parts-returns g t c = ends c.loop-part.invariant (spaced_end _ _ _ c.loop-part-test.false)

pub put_list-returns-in_err-put : goal.put_list-returns-in_err-put
put_list-returns-in_err-put g t c =
    let p = err_from_is_err_and c.from_residual.result c.from_residual.ensures.1 in
    rw p.1 (stops_first (head_text c.args.head.now ++ (spaced (map binder_text c.args.binders.now) ++ (spaced (map expr_text c.args.parts.now) ++ 41 ∷ []))) c.in_err-put.ensures.wrote)

pub put_list-returns-in_err-put_head : goal.put_list-returns-in_err-put_head
put_list-returns-in_err-put_head g t c =
    let p = err_from_is_err_and c.from_residual-in_err-put_head.result c.from_residual-in_err-put_head.ensures.1 in
    rw p.1 (stops_later c.in_ok-put.ensures.wrote (stops_first (spaced (map binder_text c.args.binders.now) ++ (spaced (map expr_text c.args.parts.now) ++ 41 ∷ [])) c.in_err-put_head.ensures))

pub put_list-returns-in_err-put_binders : goal.put_list-returns-in_err-put_binders
put_list-returns-in_err-put_binders g t c =
    let p = err_from_is_err_and c.from_residual-in_err-put_binders.result c.from_residual-in_err-put_binders.ensures.1 in
    rw p.1 (stops_later c.in_ok-put.ensures.wrote (stops_later c.in_ok-put_head.ensures (stops_first (spaced (map expr_text c.args.parts.now) ++ 41 ∷ []) c.in_err-put_binders.ensures)))

pub put_list-returns-in_err-put_parts : goal.put_list-returns-in_err-put_parts
put_list-returns-in_err-put_parts g t c =
    let p = err_from_is_err_and c.from_residual-in_err-put_parts.result c.from_residual-in_err-put_parts.ensures.1 in
    rw p.1 (stops_later c.in_ok-put.ensures.wrote (stops_later c.in_ok-put_head.ensures (stops_later c.in_ok-put_binders.ensures (stops_first (41 ∷ []) c.in_err-put_parts.ensures))))

pub put_list-returns : goal.put_list-returns
put_list-returns g t c =
    after _ _ (head_text c.args.head.now ++ (spaced (map binder_text c.args.binders.now) ++ (spaced (map expr_text c.args.parts.now) ++ 41 ∷ []))) c.in_ok-put.ensures.wrote
    (after _ _ (spaced (map binder_text c.args.binders.now) ++ (spaced (map expr_text c.args.parts.now) ++ 41 ∷ [])) c.in_ok-put_head.ensures
    (after _ _ (spaced (map expr_text c.args.parts.now) ++ 41 ∷ []) c.in_ok-put_binders.ensures
    (after _ _ (41 ∷ []) c.in_ok-put_parts.ensures c.put-2.ensures.wrote)))

pub put_expr-returns-then-is_alone : goal.put_expr-returns-then-is_alone
put_expr-returns-then-is_alone g t c =
    rw (← alone c.args.expr.now _ _ _ c.head-head.ensures (c.as_slice-binders.ensures ∙ c.binders.ensures) (c.as_slice-parts.ensures ∙ c.parts.ensures) c.if-is_alone.ensures) at c.put_head.ensures

pub put_expr-returns : goal.put_expr-returns
put_expr-returns g t c =
    rw (← not_alone c.args.expr.now _ _ _ c.head-head.ensures (c.as_slice-binders.ensures ∙ c.binders.ensures) (c.as_slice-parts.ensures ∙ c.parts.ensures) c.if-is_alone.ensures) at c.put_list.ensures
