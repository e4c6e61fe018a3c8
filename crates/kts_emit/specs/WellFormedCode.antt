-- Whether the code of terms and formulas may stand in well formed code.
use Rattle.std.specs.Prelude.{◌≡◌, ◌≤◌, ◌<◌, ℕ, ◌+◌, List, length, true, Some}
use Rattle.std.specs.List.{list_all}
use Rattle.kts_base.specs.Limits.{most_variables}
use Rattle.kts_code.specs.WellFormed.{is_instr}
use Rattle.kts_spec.specs.declared.schema.Schema.{Schema}
use Rattle.kts_spec.specs.declared.tree.Term.{Term}
use Rattle.kts_spec.specs.declared.tree.Formula.{Formula}
use Rattle.kts_spec.specs.Typing.{Kind, kind_of, is_typed}
use Rattle.kts_emit.specs.Codes.{term_code, formula_code}

-- each instruction of the code of what is well typed is well formed, in code of so many places of which some place is behind it
pub record CodeIsWellFormed : Type 0 where
  pub term : (schema : Schema) (t : Term) (scope : List ℕ) (k : Kind) (place places : ℕ) → length scope ≤ most_variables
      → kind_of schema t scope ≡ Some k → place + length (term_code t place (length scope)) < places
      → list_all (is_instr schema places) (term_code t place (length scope)) ≡ true
  pub formula : (schema : Schema) (p : Formula) (scope : List ℕ) (place places : ℕ) → length scope ≤ most_variables
      → is_typed schema p scope ≡ true → place + length (formula_code p place (length scope)) < places
      → list_all (is_instr schema places) (formula_code p place (length scope)) ≡ true
