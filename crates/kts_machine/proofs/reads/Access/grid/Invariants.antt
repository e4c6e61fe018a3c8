use Rattle.std.proofs.Common.{◌≤◌, ◌*◌, ◌-◌, [], ◌∷◌, map, pos}
use Rattle.kts_abs.specs.Cells.{value_of}
use Rattle.kts_abs.specs.InSpace.{any_of}
use Rattle.kts_spec.specs.Schedules.{all}
use Rattle.kts_machine.specs.Reading.{value_at}
use Rattle.kts_machine.proofs.JoinedValues.{SoFar}
use Rattle.kts_machine.proofs.reads.Access.grid.Given as goal

-- the values at the rows so far, joined
abbrev pub invariant-loop-from : goal.invariant-loop-from
invariant-loop-from g l = record {
  joined : SoFar l.self.kind (λ m. map (λ n. value_at l.self (pos m ∷ pos n ∷ [])) l.last) l.first (any_of l.self.kind (map (value_at l.self) (all (map pos l.first ∷ map pos l.last ∷ [])))) (value_of l.cell) l.from;
  within : l.from ≤ 64 * g.row.W;
}

abbrev pub decreases-loop-from : goal.decreases-loop-from
decreases-loop-from g l = 64 * g.row.W - l.from
