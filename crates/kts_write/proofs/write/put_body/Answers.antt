use Rattle.std.proofs.Common.{◌++◌, map}
use Rattle.std.specs.Prelude.{codes}
use Rattle.std.proofs.lemmas.Result.{err_from_is_err_and}
use Rattle.kts_base.proofs.Pieces.{after, stops_first, stops_later}
use Rattle.kts_code.specs.CodeTexts.{instr_words}
use Rattle.kts_write.proofs.LineTexts.{lines_text, body_pieces}
use Rattle.kts_write.proofs.write.put_body.Goals as goal

pub returns-in_err-put_sizes : goal.returns-in_err-put_sizes
returns-in_err-put_sizes g c =
    let p = err_from_is_err_and c.from_residual.result c.from_residual.ensures.1 in
    let code = c.args.code.now in
    let d = rw (c.stack.ensures, c.len.ensures, c.instrs.ensures) at c.in_err-put_sizes.ensures in
    rw p.1 (rw (body_pieces code.stack code.instrs) at (stops_first (lines_text (map instr_words code.instrs) ++ codes "end\n") d))

pub returns-in_err-put_instrs : goal.returns-in_err-put_instrs
returns-in_err-put_instrs g c =
    let p = err_from_is_err_and c.from_residual-in_err-put_instrs.result c.from_residual-in_err-put_instrs.ensures.1 in
    let code = c.args.code.now in
    let d = rw (c.stack.ensures, c.len.ensures, c.instrs.ensures) at c.in_ok-put_sizes.ensures in
    let i = rw (c.as_slice.ensures, c.instrs-2.ensures) at c.in_err-put_instrs.ensures in
    rw p.1 (rw (body_pieces code.stack code.instrs) at (stops_later d (stops_first (codes "end\n") i)))

pub returns : goal.returns
returns g c =
    let code = c.args.code.now in
    let d = rw (c.stack.ensures, c.len.ensures, c.instrs.ensures) at c.in_ok-put_sizes.ensures in
    let i = rw (c.as_slice.ensures, c.instrs-2.ensures) at c.in_ok-put_instrs.ensures in
    let all = after c.put.result _ (lines_text (map instr_words code.instrs) ++ codes "end\n") d (after c.put.result _ (codes "end\n") i c.put.ensures.wrote) in
    rw (body_pieces code.stack code.instrs) at all
