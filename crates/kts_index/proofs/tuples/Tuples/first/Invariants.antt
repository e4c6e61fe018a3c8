use Rattle.std.proofs.Common.{◌-◌, ◌≤◌}
use Rattle.kts_index.specs.FirstNumbers.{NonePasses}
use Rattle.kts_index.specs.ConstraintTuples.{agrees_in}
use Rattle.kts_index.proofs.tuples.Tuples.first.Given as goal

abbrev pub invariant-loop-at : goal.invariant-loop-at
invariant-loop-at l = record {
  after : l.from ≤ l.at;
  none : NonePasses (agrees_in l.self l.args l.cell) l.from l.at;
}

abbrev pub decreases-loop-at : goal.decreases-loop-at
decreases-loop-at l = l.below - l.at
