use Rattle.std.proofs.Common.{◌++◌, map}
use Rattle.std.specs.Fmt.{signed_decimal}
use Rattle.std.proofs.lemmas.Result.{err_from_is_err_and}
use Rattle.kts_base.proofs.Pieces.{after, stops_first, stops_later}
use Rattle.kts_code.specs.CodeTexts.{word_of, values_of}
use Rattle.kts_spec.specs.Texts.{newline}
use Rattle.kts_write.specs.Spaced.{spaced}
use Rattle.kts_write.proofs.LineTexts.{line_spaced}
use Rattle.kts_write.proofs.instructions.put_instr.Goals as goal

pub returns-in_err-put : goal.returns-in_err-put
returns-in_err-put g c =
    let p = err_from_is_err_and c.from_residual.result c.from_residual.ensures.1 in
    let values = map signed_decimal (values_of c.args.instr.now) in
    let all = stops_first (spaced values ++ newline) (rw c.word_of.ensures at c.in_err-put.ensures.wrote) in
    rw p.1 (rw (← line_spaced (word_of c.args.instr.now) values) at all)

pub returns-in_err-put_operands : goal.returns-in_err-put_operands
returns-in_err-put_operands g c =
    let p = err_from_is_err_and c.from_residual-in_err-put_operands.result c.from_residual-in_err-put_operands.ensures.1 in
    let values = map signed_decimal (values_of c.args.instr.now) in
    let all = stops_later (rw c.word_of.ensures at c.in_ok-put.ensures.wrote) (stops_first newline c.in_err-put_operands.ensures) in
    rw p.1 (rw (← line_spaced (word_of c.args.instr.now) values) at all)

pub returns : goal.returns
returns g c =
    let values = map signed_decimal (values_of c.args.instr.now) in
    let all = after c.put-2.result _ (spaced values ++ newline) (rw c.word_of.ensures at c.in_ok-put.ensures.wrote)
    (after c.put-2.result _ newline c.in_ok-put_operands.ensures c.put-2.ensures.wrote) in
    rw (← line_spaced (word_of c.args.instr.now) values) at all
