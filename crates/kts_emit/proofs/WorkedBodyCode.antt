-- The worked bodies compute, once each form is its code.
use Rattle.std.proofs.Common.{refl}
use Rattle.kts_spec.proofs.AddendEquations.{summed}
use Rattle.kts_spec.proofs.ReadEquations.{accesses}
use Rattle.kts_clause.specs.Clauses.{clauses_of, disjunctions}
use Rattle.kts_clause.proofs.PartEquations.{clause_forms}
use Rattle.kts_plan.specs.Assertions.{assertion_in}
use Rattle.kts_plan.specs.BareAccesses.{reads_nothing}
use Rattle.kts_plan.specs.Constraints.{constraints_of}
use Rattle.kts_plan.specs.Heads.{heads_of}
use Rattle.kts_plan.specs.Plans.{clauses_in, definites_of, definites_of_clause, definites_of_literal}
use Rattle.kts_plan.proofs.HeadEquations.{head_equations}
use Rattle.kts_emit.specs.WorkedBodies.{BodiesAreAsWorked}
use Rattle.kts_emit.proofs.CodeEquations.{code_forms}
use Rattle.kts_emit.proofs.LengthEquations.{length_forms}

pub bodies_are_as_worked : BodiesAreAsWorked
bodies_are_as_worked = record {
  code = simp (clause_forms, summed, accesses, head_equations, code_forms, length_forms, clauses_in, clauses_of, disjunctions, definites_of, definites_of_clause, definites_of_literal, heads_of, assertion_in, reads_nothing, constraints_of) refl;
  entries = simp (clause_forms, summed, accesses, head_equations, length_forms, clauses_in, clauses_of, disjunctions, definites_of, definites_of_clause, definites_of_literal, heads_of, assertion_in, reads_nothing, constraints_of) refl;
}
