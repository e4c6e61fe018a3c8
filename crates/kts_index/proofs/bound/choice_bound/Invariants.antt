use Rattle.std.proofs.Common.{◌≡◌, ◌≤◌, ◌*◌, length, take, sum_by}
use Rattle.kts_base.specs.Limits.{most_tasks, most_type_end}
use Rattle.kts_spec.specs.Schedules.{tuples}
use Rattle.kts_index.specs.Pairs.{pairs}
use Rattle.kts_index.specs.TupleNumbers.{sizes_in}
use Rattle.kts_index.proofs.bound.choice_bound.Given as goal

-- the bounds of the first cells
abbrev pub invariant-loop-number : goal.invariant-loop-number
invariant-loop-number l = record {
  value : l.bound ≡ sum_by (λ cell. length (pairs l.index l.schema l.inst l.choice cell) * l.rises) (take l.number (tuples (sizes_in l.inst l.args)));
  few : l.bound ≤ l.number * (most_tasks * (2 * most_type_end));
}
