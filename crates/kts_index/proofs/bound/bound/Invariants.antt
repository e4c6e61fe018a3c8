use Rattle.std.proofs.Common.{◌≡◌, ◌≤◌, ◌+◌, ◌*◌}
use Rattle.kts_base.specs.Limits.{most_cells, most_tasks, most_type_end}
use Rattle.kts_index.proofs.BoundSums.{bound_to}
use Rattle.kts_index.proofs.bound.bound.Given as goal

abbrev pub invariant-loop-choice : goal.invariant-loop-choice
invariant-loop-choice l = record {
  value : l.bound ≡ bound_to l.index l.schema l.inst l.choice;
  few : l.bound ≤ most_tasks + l.choice * (most_cells * (most_tasks * (2 * most_type_end)));
}
