use Rattle.std.proofs.Common.{◌≡◌, ◌+◌}
use Rattle.kts_text.specs.Shown.{trees_left}
use Rattle.kts_syntax.specs.Sizes.{count}
use Rattle.kts_syntax.proofs.atoms.count.Given as goal

abbrev pub invariant-loop-after : goal.invariant-loop-after
invariant-loop-after l = l.n + count (trees_left l.left) ≡ count (trees_left l.trees)

abbrev pub decreases-loop-after : goal.decreases-loop-after
decreases-loop-after l = count (trees_left l.left)
