use Rattle.kts_index.specs.ConstraintTuples.{task_in}
use Rattle.kts_index.proofs.FirstOfPatterns.{IsFirstOf}
use Rattle.kts_index.proofs.first_paired.first_paired.Given as goal

abbrev pub invariant-loop-pattern : goal.invariant-loop-pattern
invariant-loop-pattern l = IsFirstOf l.patterns l.choice l.cell (task_in l.tuples l.definite) l.from l.tuples.count l.pattern-index l.first
