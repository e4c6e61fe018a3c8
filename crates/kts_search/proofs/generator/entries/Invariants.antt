use Rattle.std.proofs.Common.{◌≡◌, ◌≤◌, ◌+◌, ◌++◌, drop, map}
use Rattle.kts_base.specs.Limits.{most_instructions}
use Rattle.kts_emit.specs.BodyRuns.{entries_from}
use Rattle.kts_plan.specs.Constraints.{constraint_of}
use Rattle.kts_search.specs.WholeScheme.{bodies_count}
use Rattle.kts_search.proofs.generator.entries.Given as goal

abbrev pub invariant-loop-definite : goal.invariant-loop-definite
invariant-loop-definite l = record {
  fits : l.place + bodies_count (map (constraint_of l.plan.clauses) (drop l.definite-index l.definites)) ≤ most_instructions;
  entries : l.entries ++ entries_from l.place (map (constraint_of l.plan.clauses) (drop l.definite-index l.definites))
      ≡ entries_from l.first (map (constraint_of l.plan.clauses) l.definites);
}
