use Rattle.std.proofs.Common.{◌≡◌, ◌+◌, ◌≤◌, length}
use Rattle.kts_read.specs.Lines.{words_in}
use Rattle.kts_read.proofs.lines.count_words.Given as goal

abbrev pub invariant-loop-after : goal.invariant-loop-after
invariant-loop-after l = record { counted : l.count + length (words_in l.rest) ≡ 1 + length (words_in l.line); few : l.count + length l.rest ≤ 1 + length l.line }

abbrev pub decreases-loop-after : goal.decreases-loop-after
decreases-loop-after l = length l.rest
