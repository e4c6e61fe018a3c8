use Rattle.kts_index.specs.ConstraintTuples.{task_in}
use Rattle.kts_index.proofs.FirstOfPatterns.{of_none, of_more}
use Rattle.kts_index.proofs.first_paired.first_paired.Goals as goal

pub loop-pattern-init : goal.loop-pattern-init
loop-pattern-init c =
    rw c.count-first.ensures.value
    (of_none c.args.patterns.now c.args.choice c.args.cell.now (task_in c.args.tuples.now c.args.definite) c.args.from c.args.tuples.now.count c.requires)

pub loop-pattern-preserved : goal.loop-pattern-preserved
loop-pattern-preserved c =
    of_more c.args.patterns.now c.args.choice c.args.cell.now (task_in c.args.tuples.now c.args.definite) c.args.from c.args.tuples.now.count
    c.loop-pattern.pattern-index c.pattern-item.result c.loop-pattern.first c.first_by-first.result c.loop-pattern-test.true c.pattern-item.is
    c.loop-pattern.invariant c.first_by-first.ensures
