-- The clauses of the examples compute, once each variant gives what it does.
use Rattle.std.proofs.Common.{refl}
use Rattle.kts_clause.specs.Clauses.{clauses_of, disjunctions}
use Rattle.kts_clause.specs.WorkedClauses.{ClauseExamples, Gives}
use Rattle.kts_clause.proofs.PartEquations.{clause_forms}

pub examples : ClauseExamples
examples = record {
  release = simp (clause_forms, Gives, clauses_of, disjunctions) refl;
  idle = simp (clause_forms, Gives, clauses_of, disjunctions) refl;
  prefixes = simp (clause_forms, Gives, clauses_of, disjunctions) refl;
  implication = simp (clause_forms, Gives, clauses_of, disjunctions) refl;
  disjunction = simp (clause_forms, Gives, clauses_of, disjunctions) refl;
  nested_implication = simp (clause_forms, Gives, clauses_of, disjunctions) refl;
  opaque_and = simp (clause_forms, Gives, clauses_of, disjunctions) refl;
  opaque_or = simp (clause_forms, Gives, clauses_of, disjunctions) refl;
  opaque_implication = simp (clause_forms, Gives, clauses_of, disjunctions) refl;
  opaque_for_all = simp (clause_forms, Gives, clauses_of, disjunctions) refl;
  opaque_for_some = simp (clause_forms, Gives, clauses_of, disjunctions) refl;
}
