use Rattle.std.proofs.Common.{◌≡◌, []}
use Rattle.kts_base.specs.Reads.{with_front}
use Rattle.kts_text.specs.Shown.{trees_left}
use Rattle.kts_syntax.specs.Counting.{AreCounts}
use Rattle.kts_syntax.specs.Sizes.{weight}
use Rattle.kts_syntax.specs.Tops.{later_forms}
use Rattle.kts_syntax.proofs.tops.later_forms.Given as goal

abbrev pub invariant-loop-forms : goal.invariant-loop-forms
invariant-loop-forms l = record {
  counts : AreCounts l.counts l.forms;
  forms : with_front l.forms (later_forms l.forms (trees_left l.left)) ≡ later_forms [] (trees_left l.trees);
}

abbrev pub decreases-loop-forms : goal.decreases-loop-forms
decreases-loop-forms l = weight (trees_left l.left)
