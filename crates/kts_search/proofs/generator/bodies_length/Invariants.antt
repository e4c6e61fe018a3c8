use Rattle.std.proofs.Common.{◌≡◌, ◌≤◌, ◌+◌, ◌-◌, ◌^◌, min, drop, map}
use Rattle.kts_plan.specs.Constraints.{constraint_of}
use Rattle.kts_search.specs.WholeScheme.{bodies_count}
use Rattle.kts_search.proofs.generator.bodies_length.Given as goal

abbrev pub invariant-loop-definite : goal.invariant-loop-definite
invariant-loop-definite l = record {
  fits : l.count ≤ 2 ^ 64 - 1;
  count : min (l.count + bodies_count (map (constraint_of l.plan.clauses) (drop l.definite-index l.definites))) (2 ^ 64 - 1)
      ≡ min (bodies_count (map (constraint_of l.plan.clauses) l.definites)) (2 ^ 64 - 1);
}
