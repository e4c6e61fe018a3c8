-- The terms and formulas that are parts of a specification, at members for the variables in scope.
use Rattle.std.specs.Prelude.{◌≡◌, ◌≤◌, ℕ, List, length, true, Some}
use Rattle.kts_base.specs.Limits.{most_variables}
use Rattle.kts_spec.specs.declared.instance.Instance.{Instance}
use Rattle.kts_spec.specs.declared.schema.Schema.{Schema}
use Rattle.kts_spec.specs.declared.tree.Formula.{Formula}
use Rattle.kts_spec.specs.declared.tree.Term.{Term}
use Rattle.kts_spec.specs.TypedValues.{InScope}
use Rattle.kts_spec.specs.Typing.{Kind, kind_of, is_typed}
use Rattle.kts_spec.specs.Worlds.{world_of}

-- the indexes of the variables in scope, of which these are members
pub record IsScope (schema : Schema) (inst : Instance) (vars scope : List ℕ) : Type 0 where
  pub few : length scope ≤ most_variables
  pub members : InScope (world_of schema inst) scope vars

-- a term that is well typed in some scope of these variables
pub record IsTermOf (schema : Schema) (inst : Instance) (vars : List ℕ) (term : Term) : Type 0 where
  pub scope : List ℕ
  pub is_scope : IsScope schema inst vars scope
  pub kind : Kind
  pub typed : kind_of schema term scope ≡ Some kind

-- a formula that is well typed in some scope of these variables
pub record IsFormulaOf (schema : Schema) (inst : Instance) (vars : List ℕ) (formula : Formula) : Type 0 where
  pub scope : List ℕ
  pub is_scope : IsScope schema inst vars scope
  pub typed : is_typed schema formula scope ≡ true
