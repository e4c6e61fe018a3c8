use Rattle.std.proofs.lemmas.Result.{err_from_is_err_and}
use Rattle.kts_base.proofs.Pieces.{after, stops_first}
use Rattle.kts_syntax.specs.Shown.{ast_of}
use Rattle.kts_syntax.specs.Texts.{lines_text}
use Rattle.kts_syntax.proofs.TextLemmas.{spec_text}
use Rattle.kts_syntax.proofs.printer.print.Goals as goal

pub returns-in_err-put_pieces : goal.returns-in_err-put_pieces
returns-in_err-put_pieces g c =
    let p = err_from_is_err_and c.from_residual.result c.from_residual.ensures.1 in
    let e = rw (c.bytes.ensures.bytes, c.name.ensures) at c.in_err-put_pieces.ensures in
    let all = stops_first (lines_text c.args.forms.now.forms) e in
    rw p.1 (rw (spec_text (ast_of c.args.forms.now)) at all)

pub returns : goal.returns
returns g c =
    let d = rw (c.bytes.ensures.bytes, c.name.ensures) at c.in_ok-put_pieces.ensures in
    let all = after c.put_lines.result _ (lines_text c.args.forms.now.forms) d (rw (c.as_slice.ensures, c.forms.ensures) at c.put_lines.ensures) in
    rw (spec_text (ast_of c.args.forms.now)) at all
