-- The plan of a specification.
use Rattle.std.specs.Prelude.{◌≡◌, ℕ, List, [], ◌∷◌, map, flat_map, filter, Bool, true, false}
use Rattle.std.specs.List.{list_all, enumerate_from}
use Rattle.kts_spec.specs.declared.spec.Spec.{Spec}
use Rattle.kts_spec.specs.declared.tree.Formula.{Formula}
use Rattle.kts_spec.specs.Answers.{formulas_of}
use Rattle.kts_clause.specs.declared.literal.Literal.{Literal}
use Rattle.kts_clause.specs.declared.clause.Clause.{Clause}
use Rattle.kts_clause.specs.Clauses.{clauses_of}
use Rattle.kts_plan.specs.declared.head.Head.{Head}
use Rattle.kts_plan.specs.declared.definite.Definite.{Definite}
use Rattle.kts_plan.specs.declared.plan.Plan.{Plan}
use Rattle.kts_plan.specs.Heads.{heads_of}

-- the clauses of formulas, in order
abbrev pub clauses_in : List Formula → List Clause
clauses_in formulas = flat_map (λ (numbered : ℕ × Formula). clauses_of numbered.0 numbered.1) (enumerate_from 0 formulas)

-- the constraints of a literal by its number, in the clause of this number
abbrev pub definites_of_literal : ℕ → ℕ × Literal → List Definite
definites_of_literal clause (number, l) = map (λ (h : Head). record { clause = clause; literal = number; head = h }) (heads_of l)

-- the constraints of a clause by its number
abbrev pub definites_of_clause : ℕ × Clause → List Definite
definites_of_clause (number, c) = flat_map (definites_of_literal number) (enumerate_from 0 c.literals)

-- the definite constraints of clauses, in order
abbrev pub definites_of : List Clause → List Definite
definites_of clauses = flat_map definites_of_clause (enumerate_from 0 clauses)

-- whether a literal has no head
abbrev pub has_no_head : List Head → Bool
has_no_head [] = true
has_no_head (h ∷ heads) = false

-- whether no literal of a clause has a head
abbrev pub is_residual : Clause → Bool
is_residual c = list_all (λ (l : Literal). has_no_head (heads_of l)) c.literals

-- the numbers of the clauses without a head
abbrev pub residuals_of : List Clause → List ℕ
residuals_of clauses = map (λ (numbered : ℕ × Clause). numbered.0) (filter (λ (numbered : ℕ × Clause). is_residual numbered.1) (enumerate_from 0 clauses))

-- the clauses of a specification
abbrev pub clauses_of_spec : Spec → List Clause
clauses_of_spec spec = clauses_in (formulas_of spec)

-- the plan of a specification has its clauses, their definite constraints, and those without
pub record IsPlanOf (spec : Spec) (plan : Plan) : Type 0 where
  pub clauses : plan.clauses ≡ clauses_of_spec spec
  pub definites : plan.definites ≡ definites_of (clauses_of_spec spec)
  pub residuals : plan.residuals ≡ residuals_of (clauses_of_spec spec)
