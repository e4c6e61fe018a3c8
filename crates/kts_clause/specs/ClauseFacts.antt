-- What the clauses of a formula of a specification keep.
use Rattle.std.specs.Prelude.{◌≡◌, ◌≤◌, ℕ, List, length, true}
use Rattle.std.specs.List.{sum_by}
use Rattle.kts_spec.specs.Related.{AllOf}
use Rattle.kts_spec.specs.Schemas.{is_prefix}
use Rattle.kts_spec.specs.Sizes.{size_of_formula, keeps_limits}
use Rattle.kts_spec.specs.Specifications.{is_formula}
use Rattle.kts_spec.specs.Typing.{is_typed}
use Rattle.kts_spec.specs.declared.schema.Schema.{Schema}
use Rattle.kts_spec.specs.declared.tree.Formula.{Formula}
use Rattle.kts_clause.specs.Clauses.{clauses_of}
use Rattle.kts_clause.specs.declared.clause.Clause.{Clause}
use Rattle.kts_clause.specs.declared.literal.Literal.{Literal}

-- a literal is well typed in a scope, and within the limits
pub record LiteralFacts (schema : Schema) (scope : List ℕ) (l : Literal) : Type 0 where
  pub typed : is_typed schema l.formula scope ≡ true
  pub limited : keeps_limits (size_of_formula l.formula) ≡ true

-- a clause has the prefix of a constraint, and its literals stand in that scope
pub record ClauseFacts (schema : Schema) (c : Clause) : Type 0 where
  pub prefix : is_prefix (length schema.indexes) c.prefix ≡ true
  pub literals : AllOf (LiteralFacts schema c.prefix) c.literals

-- how many trees stand in the literals of a clause
abbrev pub clause_trees : Clause → ℕ
clause_trees c = sum_by (λ (l : Literal). (size_of_formula l.formula).trees) c.literals

-- a formula has no more clauses than trees, and no more trees in their literals; those of a specification's are well typed
pub record ClausesKeep (number : ℕ) (p : Formula) : Type 0 where
  pub few : length (clauses_of number p) ≤ (size_of_formula p).trees
  pub small : sum_by clause_trees (clauses_of number p) ≤ (size_of_formula p).trees
  pub typed : (schema : Schema) → is_formula schema p ≡ true → AllOf (ClauseFacts schema) (clauses_of number p)
