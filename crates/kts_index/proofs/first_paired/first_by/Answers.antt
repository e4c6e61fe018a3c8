use Rattle.kts_index.proofs.FirstOfPatterns.{of_both}
use Rattle.kts_index.proofs.first_paired.first_by.Goals as goal

pub returns : goal.returns
returns c =
    of_both c.args.tuples.now c.args.definite c.args.choice c.args.cell.now c.args.pattern.now c.args.from c.args.below c.first.result
    c.if-pattern-definite.false c.if-pattern-choice.false (rw c.as_slice.ensures at c.first.ensures)
