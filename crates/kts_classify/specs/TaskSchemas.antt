-- The schema of a specification's tasks.
use Rattle.std.specs.Prelude.{◌≡◌, ℕ, List}
use Rattle.kts_clause.specs.declared.clause.Clause.{Clause}
use Rattle.kts_plan.specs.Constraints.{clause_at, prefixes_of}
use Rattle.kts_plan.specs.Plans.{clauses_of_spec}
use Rattle.kts_plan.specs.declared.definite.Definite.{Definite}
use Rattle.kts_spec.specs.declared.schema.Schema.{Schema}
use Rattle.kts_spec.specs.declared.spec.Spec.{Spec}

-- the prefix of a constraint's clause
abbrev pub prefix_in : List Clause → Definite → List ℕ
prefix_in clauses d = (clause_at clauses d.clause).prefix

-- the declarations are those of the specification, and the tasks the prefixes of its constraints
pub record IsTaskSchema (spec : Spec) (schema : Schema) : Type 0 where
  pub name : schema.name ≡ spec.schema.name
  pub decls : schema.decls ≡ spec.schema.decls
  pub indexes : schema.indexes ≡ spec.schema.indexes
  pub givens : schema.givens ≡ spec.schema.givens
  pub choices : schema.choices ≡ spec.schema.choices
  pub tasks : schema.tasks ≡ prefixes_of (clauses_of_spec spec)
