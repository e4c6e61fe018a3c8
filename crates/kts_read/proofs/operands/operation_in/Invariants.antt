use Rattle.std.proofs.Common.{◌≡◌, find, drop}
use Rattle.kts_read.specs.Words.{is_text}
use Rattle.kts_code.specs.CodeTexts.{word_of}
use Rattle.kts_read.proofs.operands.operation_in.Given as goal

abbrev pub invariant-loop-instr : goal.invariant-loop-instr
invariant-loop-instr l = find (λ instr. is_text (word_of instr) l.word) (drop l.instr-index l.instrs) ≡ find (λ instr. is_text (word_of instr) l.word) l.instrs
