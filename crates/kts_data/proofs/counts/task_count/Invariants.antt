use Rattle.std.proofs.Common.{◌≡◌, ◌≤◌, ◌+◌, ◌*◌, drop, map, sum}
use Rattle.kts_data.specs.Drafts.{tuples_in}
use Rattle.kts_data.proofs.counts.task_count.Given as goal

-- the tasks of the first constraints, and of the others
abbrev pub invariant-loop-prefix : goal.invariant-loop-prefix
invariant-loop-prefix l = record {
  so_far : l.count + sum (map (tuples_in l.inst) (drop l.prefix-index l.schema.tasks)) ≡ sum (map (tuples_in l.inst) l.schema.tasks);
  few : l.count ≤ 262144 * l.prefix-index;
}
