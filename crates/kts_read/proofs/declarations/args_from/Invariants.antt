use Rattle.std.proofs.Common.{◌≡◌, ◌-◌, drop, ℕ, List}
use Rattle.kts_base.specs.Reads.{each_from, with_front}
use Rattle.kts_read.specs.Lines.{words_in}
use Rattle.kts_read.specs.DeclarationLines.{index_at, args_from}
use Rattle.kts_read.proofs.declarations.args_from.Given as goal

abbrev pub invariant-loop-k : goal.invariant-loop-k
invariant-loop-k l = with_front l.args (each_from (λ (u : ℕ) word. index_at l.indexes word) (λ u (word : List ℕ). u) 0 (drop l.k (words_in l.line))) ≡ args_from l.indexes l.from (words_in l.line)

abbrev pub decreases-loop-k : goal.decreases-loop-k
decreases-loop-k l = l.count - l.k
