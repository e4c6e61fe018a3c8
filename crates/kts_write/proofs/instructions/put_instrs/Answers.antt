use Rattle.std.proofs.Common.{◌+◌, drop, map}
use Rattle.std.proofs.lemmas.Result.{err_from_is_err_and}
use Rattle.kts_base.proofs.Pieces.{goes_on, stops}
use Rattle.kts_code.specs.CodeTexts.{instr_words}
use Rattle.kts_write.proofs.LineTexts.{lines_text, lines_at}
use Rattle.kts_write.proofs.instructions.put_instrs.Goals as goal

pub returns-in_err-put_instr : goal.returns-in_err-put_instr
returns-in_err-put_instr g c =
    let p = err_from_is_err_and c.from_residual.result c.from_residual.ensures.1 in
    rw p.1 (stops (lines_text (map instr_words (drop (c.loop-instr.instr-index + 1) c.args.instrs.now))) c.loop-instr.invariant
    (lines_at instr_words c.args.instrs.now c.loop-instr.instr-index _ c.loop-instr-test.true) c.in_err-put_instr.ensures)

pub loop-instr-preserved : goal.loop-instr-preserved
loop-instr-preserved g c =
    goes_on (lines_text (map instr_words (drop (c.loop-instr.instr-index + 1) c.args.instrs.now))) c.loop-instr.invariant
    (lines_at instr_words c.args.instrs.now c.loop-instr.instr-index _ c.loop-instr-test.true) c.in_ok-put_instr.ensures
