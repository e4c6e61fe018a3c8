use Rattle.std.proofs.Common.{◌≡◌, find, drop}
use Rattle.kts_syntax.specs.Heads.{keyword}
use Rattle.kts_syntax.specs.Words.{is_text}
use Rattle.kts_syntax.proofs.operations.operation_in.Given as goal

abbrev pub invariant-loop-head : goal.invariant-loop-head
invariant-loop-head l = find (λ head. is_text (keyword head) l.word) (drop l.head-index l.heads) ≡ find (λ head. is_text (keyword head) l.word) l.heads
