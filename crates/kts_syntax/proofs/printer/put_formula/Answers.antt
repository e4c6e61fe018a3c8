use Rattle.std.proofs.Common.{◌++◌, ◌∷◌, []}
use Rattle.std.specs.Prelude.{codes}
use Rattle.std.proofs.lemmas.Result.{err_from_is_err_and}
use Rattle.kts_base.proofs.Pieces.{after, stops_first, stops_later}
use Rattle.kts_syntax.specs.Texts.{expr_text}
use Rattle.kts_syntax.proofs.TextLemmas.{formula_text}
use Rattle.kts_syntax.proofs.printer.put_formula.Goals as goal

pub returns-in_err-put_pieces : goal.returns-in_err-put_pieces
returns-in_err-put_pieces g c =
    let p = err_from_is_err_and c.from_residual.result c.from_residual.ensures.1 in
    let e = rw (c.bytes.ensures.bytes, c.name.ensures) at c.in_err-put_pieces.ensures in
    let all = stops_first (expr_text c.args.expr.now ++ 41 ∷ []) e in
    rw p.1 (rw (formula_text (codes "formula") c.args.name.now.name (expr_text c.args.expr.now)) at all)

pub returns-in_err-put_expr : goal.returns-in_err-put_expr
returns-in_err-put_expr g c =
    let p = err_from_is_err_and c.from_residual-in_err-put_expr.result c.from_residual-in_err-put_expr.ensures.1 in
    let d = rw (c.bytes.ensures.bytes, c.name.ensures) at c.in_ok-put_pieces.ensures in
    let all = stops_later d (stops_first (41 ∷ []) c.in_err-put_expr.ensures) in
    rw p.1 (rw (formula_text (codes "formula") c.args.name.now.name (expr_text c.args.expr.now)) at all)

pub returns : goal.returns
returns g c =
    let d = rw (c.bytes.ensures.bytes, c.name.ensures) at c.in_ok-put_pieces.ensures in
    let all = after c.put.result _ (expr_text c.args.expr.now ++ 41 ∷ []) d (after c.put.result _ (41 ∷ []) c.in_ok-put_expr.ensures c.put.ensures.wrote) in
    rw (formula_text (codes "formula") c.args.name.now.name (expr_text c.args.expr.now)) at all
