use Rattle.std.proofs.Common.{◌≡◌, ◌++◌, length, drop, map}
use Rattle.kts_emit.specs.ClauseCode.{clause_code}
use Rattle.kts_plan.specs.Constraints.{clause_at}
use Rattle.kts_search.specs.ClauseFilters.{filters_by}
use Rattle.kts_search.proofs.generator.emit_filters.Given as goal

abbrev pub invariant-loop-number : goal.invariant-loop-number
invariant-loop-number l =
    l.code.instrs ++ filters_by clause_code (map (clause_at l.plan.clauses) (drop l.number-index l.numbers)) (length l.code.instrs) l.to
    ≡ l.initial.code.instrs ++ filters_by clause_code (map (clause_at l.plan.clauses) l.numbers) (length l.initial.code.instrs) l.to
