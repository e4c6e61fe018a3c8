-- The specification of its parts, where they keep the condition of specifications.
use Rattle.std.specs.Prelude.{◌≡◌, refl, ℕ, List, [], Bool, true, false, Option, Some, None, option_and_then, nat_le}
use Rattle.std.specs.List.{list_all}
use Rattle.kts_base.specs.Limits.{most_written_trees}
use Rattle.kts_spec.specs.Schemas.{is_schema}
use Rattle.kts_spec.specs.Sizes.{size_of_formula}
use Rattle.kts_spec.specs.Specifications.{is_spec}
use Rattle.kts_spec.specs.declared.schema.Schema.{Schema}
use Rattle.kts_spec.specs.declared.spec.Spec.{Spec}
use Rattle.kts_spec.specs.declared.tree.Formula.{Formula}
use Rattle.kts_check.specs.Forms.{Parts, parts}

-- whether these parts keep the condition of schemas
abbrev pub has_schema : Parts → Bool
has_schema p = is_schema p.name p.decls p.indexes p.givens p.choices p.tasks

-- the schema of these parts, where this test of them is passed
abbrev pub schema_if : (p : Parts) (test : Bool) → has_schema p ≡ test → Option Schema
schema_if p true e = Some (record { name = p.name; decls = p.decls; indexes = p.indexes; givens = p.givens; choices = p.choices; tasks = p.tasks; is_schema = e })
schema_if p false e = None

-- the specification of these formulas, where this test of them is passed
abbrev pub spec_if : (schema : Schema) (formulas : List (List ℕ × Formula)) (test : Bool) → is_spec schema formulas ≡ test → Option Spec
spec_if schema formulas true e = Some (record { schema = schema; formulas = formulas; is_spec = e })
spec_if schema formulas false e = None

-- the specification of these parts
unfoldable pub spec_of : Parts → Option Spec
spec_of p = option_and_then (λ schema. spec_if schema p.formulas (is_spec schema p.formulas) refl) (schema_if p (has_schema p) refl)

-- each formula has at most as many term and formula trees as may be written
abbrev pub are_small : List (List ℕ × Formula) → Bool
are_small formulas = list_all (λ f. nat_le (size_of_formula f.1).trees most_written_trees) formulas

-- these parts are those of a specification, for which no task is made yet, and its formulas are small
pub record IsSpecified (p : Parts) : Type 0 where
  pub spec : Spec
  pub is : spec_of p ≡ Some spec
  pub same : parts spec ≡ p
  pub tasks : p.tasks ≡ []
  pub small : are_small p.formulas ≡ true
