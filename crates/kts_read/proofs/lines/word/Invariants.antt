use Rattle.std.proofs.Common.{◌≡◌, get_or, []}
use Rattle.kts_read.specs.Lines.{words_in}
use Rattle.kts_read.proofs.lines.word.Given as goal

abbrev pub invariant-loop-left : goal.invariant-loop-left
invariant-loop-left l = get_or (words_in l.rest) l.left [] ≡ get_or (words_in l.line) l.number []

abbrev pub decreases-loop-left : goal.decreases-loop-left
decreases-loop-left l = l.left
