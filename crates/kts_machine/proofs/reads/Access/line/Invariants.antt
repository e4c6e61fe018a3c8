use Rattle.std.proofs.Common.{◌≤◌, ◌*◌, ◌-◌, [], ◌∷◌, map}
use Rattle.kts_abs.specs.Cells.{value_of}
use Rattle.kts_abs.specs.InSpace.{any_of}
use Rattle.kts_machine.specs.Items.{positions_of, tuple_of}
use Rattle.kts_machine.specs.Reading.{value_at}
use Rattle.kts_machine.proofs.JoinedValues.{SoFar}
use Rattle.kts_machine.proofs.reads.Access.line.Given as goal

-- the values at the members so far, joined
abbrev pub invariant-loop-from : goal.invariant-loop-from
invariant-loop-from g l = record {
  joined : SoFar l.self.kind (λ m. value_at l.self (positions_of (tuple_of l.first m)) ∷ []) l.last (any_of l.self.kind (map (λ m. value_at l.self (positions_of (tuple_of l.first m))) l.last)) (value_of l.cell) l.from;
  within : l.from ≤ 64 * g.row.W;
}

abbrev pub decreases-loop-from : goal.decreases-loop-from
decreases-loop-from g l = 64 * g.row.W - l.from
