use Rattle.std.proofs.Common.{◌≡◌}
use Rattle.kts_base.specs.Reads.{with_front}
use Rattle.kts_text.specs.Shown.{trees_left}
use Rattle.kts_syntax.specs.Sizes.{weight}
use Rattle.kts_syntax.specs.Tops.{names}
use Rattle.kts_syntax.proofs.tops.names.Given as goal

abbrev pub invariant-loop-words : goal.invariant-loop-words
invariant-loop-words l = with_front l.words (names (trees_left l.left)) ≡ names (trees_left l.trees)

abbrev pub decreases-loop-words : goal.decreases-loop-words
decreases-loop-words l = weight (trees_left l.left)
