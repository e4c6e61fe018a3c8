use Rattle.std.proofs.Common.{◌++◌}
use Rattle.std.specs.Prelude.{codes, decimal}
use Rattle.std.proofs.lemmas.Result.{err_from_is_err_and}
use Rattle.kts_base.proofs.Pieces.{after, stops_first, stops_later}
use Rattle.kts_read.specs.Faults.{kind_text}
use Rattle.kts_spec.specs.Texts.{newline}
use Rattle.kts_top.proofs.refusals.put_code_fault.Goals as goal

pub returns-in_err-put : goal.returns-in_err-put
returns-in_err-put g c =
    let p = err_from_is_err_and c.from_residual.result c.from_residual.ensures.1 in
    rw p.1 (stops_first (kind_text c.args.fault.now.kind ++ (codes " at line " ++ (decimal c.args.fault.now.line ++ newline))) c.in_err-put.ensures.wrote)

pub returns-in_err-put-2 : goal.returns-in_err-put-2
returns-in_err-put-2 g c =
    let p = err_from_is_err_and c.from_residual-in_err-put-2.result c.from_residual-in_err-put-2.ensures.1 in
    rw p.1 (stops_later c.in_ok-put.ensures.wrote (stops_first (codes " at line " ++ (decimal c.args.fault.now.line ++ newline)) (rw c.kind.ensures at c.in_err-put-2.ensures)))

pub returns : goal.returns
returns g c =
    let rest = codes " at line " ++ (decimal c.args.fault.now.line ++ newline) in
    after c.put_pieces.result _ (kind_text c.args.fault.now.kind ++ rest) c.in_ok-put.ensures.wrote
    (after c.put_pieces.result _ rest (rw c.kind.ensures at c.in_ok-put-2.ensures) (rw (c.as_bytes.ensures.value, c.format.ensures.text, c.line.ensures) at c.put_pieces.ensures))
