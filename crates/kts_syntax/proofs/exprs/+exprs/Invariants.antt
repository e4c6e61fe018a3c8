use Rattle.std.proofs.Common.{◌≤◌, ◌+◌, ◌*◌}
use Rattle.kts_text.specs.Shown.{trees_left}
use Rattle.kts_syntax.specs.Sizes.{weight}
use Rattle.kts_syntax.proofs.RoomLemmas.{Goes}
use Rattle.kts_syntax.proofs.exprs.+exprs.Given as goal

abbrev pub decreases-expr : goal.decreases-expr
decreases-expr l = 2 * weight (trees_left l.inside.now)

abbrev pub decreases-list_part : goal.decreases-list_part
decreases-list_part l = 2 * weight (trees_left l.inside.now) + 1

abbrev pub decreases-parts_in : goal.decreases-parts_in
decreases-parts_in l = 2 * weight (trees_left l.trees.now)

abbrev pub invariant-parts_in-loop-parts : goal.invariant-parts_in-loop-parts
invariant-parts_in-loop-parts l = record {
  weight : weight (trees_left l.left) ≤ weight (trees_left l.trees);
  goes : Goes l.fn.layout (trees_left l.trees) l.fn.room l.parts l.ahead (trees_left l.left) l.room;
}

abbrev pub decreases-parts_in-loop-parts : goal.decreases-parts_in-loop-parts
decreases-parts_in-loop-parts l = weight (trees_left l.left)
