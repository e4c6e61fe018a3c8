-- The worked code computes, once each form is its code and has its length.
use Rattle.std.proofs.Common.{ℕ, ◌+◌, List, length, refl, ap, ◌∙◌}
use Rattle.kts_spec.specs.declared.tree.Formula.{Formula}
use Rattle.kts_spec.proofs.AddendEquations.{summed}
use Rattle.kts_spec.proofs.ReadEquations.{accesses}
use Rattle.kts_clause.specs.Clauses.{clauses_of, disjunctions}
use Rattle.kts_clause.proofs.PartEquations.{clause_forms}
use Rattle.kts_code.specs.declared.instructions.Instr.{Instr}
use Rattle.kts_plan.specs.Assertions.{assertion_in}
use Rattle.kts_plan.specs.BareAccesses.{reads_nothing}
use Rattle.kts_plan.specs.Constraints.{constraints_of}
use Rattle.kts_plan.specs.Heads.{heads_of}
use Rattle.kts_plan.specs.Plans.{clauses_in, definites_of, definites_of_clause, definites_of_literal, is_residual}
use Rattle.kts_plan.specs.Walks.{residual_clauses}
use Rattle.kts_plan.proofs.HeadEquations.{head_equations}
use Rattle.kts_emit.specs.BodyRuns.{bodies_code, entries_from}
use Rattle.kts_emit.specs.ClauseCode.{clause_code, length_of_clause}
use Rattle.kts_emit.proofs.CodeEquations.{code_forms}
use Rattle.kts_emit.proofs.LengthEquations.{length_forms}
use Rattle.kts_search.specs.ClauseFilters.{filters_by, weight_by}
use Rattle.kts_search.specs.SearchParts.{code_with}
use Rattle.kts_search.specs.Worked.{SearchIsAsWorked}

-- the filters, the instructions and the entries that formulas give
abbrev filters_of : List Formula → List Instr
filters_of fs =
    let cs = residual_clauses (clauses_in fs) in
    filters_by clause_code cs 3 (6 + weight_by length_of_clause cs)

abbrev instrs_of : List Formula → List Instr
instrs_of fs = code_with (filters_of fs) (bodies_code 1 (6 + length (filters_of fs)) (constraints_of (clauses_in fs)) (9 + length (filters_of fs)))

abbrev entries_of : List Formula → List ℕ
entries_of fs = entries_from (9 + length (filters_of fs)) (constraints_of (clauses_in fs))

pub search_worked : SearchIsAsWorked
search_worked = record {
  code = λ spec e.
      ap instrs_of e
      ∙ simp (clause_forms, summed, accesses, head_equations, code_forms, length_forms, clauses_in, clauses_of, disjunctions, definites_of, definites_of_clause, definites_of_literal, is_residual, heads_of, assertion_in, reads_nothing, constraints_of) refl;
  entries = λ spec e.
      ap entries_of e
      ∙ simp (clause_forms, summed, accesses, head_equations, code_forms, length_forms, clauses_in, clauses_of, disjunctions, definites_of, definites_of_clause, definites_of_literal, is_residual, heads_of, assertion_in, reads_nothing, constraints_of) refl;
}
