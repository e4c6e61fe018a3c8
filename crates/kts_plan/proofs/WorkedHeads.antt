-- The definite constraints of some formulas, computed.
use Rattle.std.proofs.Common.{refl}
use Rattle.kts_spec.proofs.AddendEquations.{summed}
use Rattle.kts_spec.proofs.ReadEquations.{accesses}
use Rattle.kts_clause.specs.Clauses.{clauses_of, disjunctions}
use Rattle.kts_clause.proofs.PartEquations.{clause_forms}
use Rattle.kts_plan.specs.BareAccesses.{reads_nothing}
use Rattle.kts_plan.specs.Constraints.{prefixes_of, constraints_of}
use Rattle.kts_plan.specs.Heads.{heads_of}
use Rattle.kts_plan.specs.Assertions.{assertion_in}
use Rattle.kts_plan.specs.Plans.{clauses_in, definites_of, definites_of_clause, definites_of_literal, residuals_of, is_residual}
use Rattle.kts_plan.specs.WorkedPlans.{PlanExamples}
use Rattle.kts_plan.proofs.HeadEquations.{head_equations}

pub examples : PlanExamples
examples = record {
  requests = record { definites = simp (clause_forms, summed, accesses, head_equations, clauses_in, clauses_of, disjunctions, definites_of, definites_of_clause, definites_of_literal, residuals_of, is_residual, heads_of, assertion_in, reads_nothing) refl; residuals = simp (clause_forms, summed, accesses, head_equations, clauses_in, clauses_of, disjunctions, definites_of, definites_of_clause, definites_of_literal, residuals_of, is_residual, heads_of, assertion_in, reads_nothing) refl };
  prefixes = simp (clause_forms, summed, accesses, head_equations, clauses_in, clauses_of, disjunctions, definites_of, definites_of_clause, definites_of_literal, residuals_of, is_residual, heads_of, assertion_in, reads_nothing, prefixes_of, constraints_of) refl;
  sums_over_members = record { definites = simp (clause_forms, summed, accesses, head_equations, clauses_in, clauses_of, disjunctions, definites_of, definites_of_clause, definites_of_literal, residuals_of, is_residual, heads_of, assertion_in, reads_nothing) refl; residuals = simp (clause_forms, summed, accesses, head_equations, clauses_in, clauses_of, disjunctions, definites_of, definites_of_clause, definites_of_literal, residuals_of, is_residual, heads_of, assertion_in, reads_nothing) refl };
  sums = record { definites = simp (clause_forms, summed, head_equations, clauses_in, clauses_of, disjunctions, definites_of, definites_of_clause, definites_of_literal, residuals_of, is_residual, heads_of, assertion_in, reads_nothing) refl; residuals = simp (clause_forms, summed, head_equations, clauses_in, clauses_of, disjunctions, definites_of, definites_of_clause, definites_of_literal, residuals_of, is_residual, heads_of, assertion_in, reads_nothing) refl };
  opposites = record { definites = simp (clause_forms, summed, head_equations, clauses_in, clauses_of, disjunctions, definites_of, definites_of_clause, definites_of_literal, residuals_of, is_residual, heads_of, assertion_in, reads_nothing) refl; residuals = simp (clause_forms, summed, head_equations, clauses_in, clauses_of, disjunctions, definites_of, definites_of_clause, definites_of_literal, residuals_of, is_residual, heads_of, assertion_in, reads_nothing) refl };
  equal_numbers = record { definites = simp (clause_forms, summed, head_equations, clauses_in, clauses_of, disjunctions, definites_of, definites_of_clause, definites_of_literal, residuals_of, is_residual, heads_of, assertion_in, reads_nothing) refl; residuals = simp (clause_forms, summed, head_equations, clauses_in, clauses_of, disjunctions, definites_of, definites_of_clause, definites_of_literal, residuals_of, is_residual, heads_of, assertion_in, reads_nothing) refl };
  other_numbers = record { definites = simp (clause_forms, head_equations, clauses_in, clauses_of, disjunctions, definites_of, definites_of_clause, definites_of_literal, residuals_of, is_residual, heads_of, assertion_in, reads_nothing) refl; residuals = simp (clause_forms, head_equations, clauses_in, clauses_of, disjunctions, definites_of, definites_of_clause, definites_of_literal, residuals_of, is_residual, heads_of, assertion_in, reads_nothing) refl };
  equal_members = record { definites = simp (clause_forms, accesses, head_equations, clauses_in, clauses_of, disjunctions, definites_of, definites_of_clause, definites_of_literal, residuals_of, is_residual, heads_of, assertion_in, reads_nothing) refl; residuals = simp (clause_forms, accesses, head_equations, clauses_in, clauses_of, disjunctions, definites_of, definites_of_clause, definites_of_literal, residuals_of, is_residual, heads_of, assertion_in, reads_nothing) refl };
}
