use Rattle.std.proofs.Common.{◌≡◌, ◌+◌, take, drop, length}
use Rattle.kts_base.specs.Reads.{each_from, with_front}
use Rattle.kts_read.specs.Lines.{words_in}
use Rattle.kts_read.specs.InstructionLines.{operand, operands}
use Rattle.kts_read.specs.Words.{word}
use Rattle.kts_write.specs.declared.table.OperandKind.{OperandKind}
use Rattle.kts_read.proofs.operands.operands.Given as goal

abbrev pub invariant-loop-k : goal.invariant-loop-k
invariant-loop-k l = record { three : length l.values ≡ 3; read : with_front (take l.k l.values) (each_from (λ k kind. operand l.counts kind (word (words_in l.line) k)) (λ k (kind : OperandKind). k + 1) (l.k + 1) (drop l.k l.kinds)) ≡ operands l.counts l.kinds (words_in l.line) }
