use Rattle.std.proofs.Common.{drop, map}
use Rattle.kts_base.specs.Writes.{Part}
use Rattle.kts_code.specs.CodeTexts.{instr_words}
use Rattle.kts_write.proofs.LineTexts.{lines_text}
use Rattle.kts_write.proofs.instructions.put_instrs.Given as goal

abbrev pub invariant-loop-instr : goal.invariant-loop-instr
invariant-loop-instr g l =
    Part (g.S.Sink.log l.fn.out) (g.S.Sink.log l.out)
    (lines_text (map instr_words (drop l.instr-index l.instrs))) (lines_text (map instr_words l.instrs))
