use Rattle.std.proofs.Common.{◌≡◌, ◌≤◌, ◌+◌, ◌-◌, ◌^◌, min, drop, map}
use Rattle.kts_emit.specs.ClauseCode.{length_of_clause}
use Rattle.kts_plan.specs.Constraints.{clause_at}
use Rattle.kts_search.specs.ClauseFilters.{weight_by}
use Rattle.kts_search.proofs.generator.filters_length.Given as goal

abbrev pub invariant-loop-number : goal.invariant-loop-number
invariant-loop-number l = record {
  fits : l.count ≤ 2 ^ 64 - 1;
  count : min (l.count + weight_by length_of_clause (map (clause_at l.plan.clauses) (drop l.number-index l.numbers))) (2 ^ 64 - 1)
      ≡ min (weight_by length_of_clause (map (clause_at l.plan.clauses) l.numbers)) (2 ^ 64 - 1);
}
