use Rattle.std.proofs.Common.{◌+◌, ◌≤◌}
use Rattle.kts_index.specs.PatternOrder.{AreBefore}
use Rattle.kts_index.proofs.groups.group_end.Given as goal

abbrev pub invariant-loop-k : goal.invariant-loop-k
invariant-loop-k l = record { on : l.from ≤ l.k; before : AreBefore l.patterns (l.definite + 1) l.k }
