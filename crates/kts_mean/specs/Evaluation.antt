-- What an evaluator computes, and what its parts have to be.
use Rattle.std.specs.Prelude.{◌≡◌, ◌≤◌, ◌+◌, ℕ, ℤ, List, ◌++◌, length, true, Bool}
use Rattle.kts_base.specs.Limits.{most_variables}
use Rattle.kts_spec.specs.declared.instance.Instance.{Instance}
use Rattle.kts_spec.specs.declared.schema.Schema.{Schema}
use Rattle.kts_spec.specs.declared.tree.Formula.{Formula}
use Rattle.kts_spec.specs.declared.tree.Term.{Term}
use Rattle.kts_spec.specs.Meaning.{value_on, truth_on}
use Rattle.kts_spec.specs.MeaningEquations.{values_on}
use Rattle.kts_spec.specs.Typing.{is_typed}
use Rattle.kts_spec.specs.Worlds.{World, world_of}
use Rattle.kts_mean.specs.Bounds.{AllIn}
use Rattle.kts_mean.specs.declared.evaluator.Evaluator.{Evaluator}
use Rattle.kts_mean.specs.Parts.{IsScope, IsTermOf, IsFormulaOf}

-- the declarations on data
abbrev pub world_in : Evaluator → World
world_in e = world_of e.schema.now e.inst.now

-- the value of a term, and of each of several, and the truth of a formula
abbrev pub value_in : Evaluator → Term → List ℕ → ℤ
value_in e = value_on (world_in e) e.schedule.now

abbrev pub values_in : Evaluator → List Term → List ℕ → List ℤ
values_in e = values_on (world_in e) e.schedule.now

abbrev pub truth_in : Evaluator → Formula → List ℕ → Bool
truth_in e = truth_on (world_in e) e.schedule.now

-- a term, and a formula, that is well typed at these variables
abbrev pub TermIn : Evaluator → List ℕ → Term → Type 0
TermIn e vars term = IsTermOf e.schema.now e.inst.now vars term

abbrev pub FormulaIn : Evaluator → List ℕ → Formula → Type 0
FormulaIn e vars formula = IsFormulaOf e.schema.now e.inst.now vars formula

-- a formula that is well typed at these variables and further ones of these indexes
pub record IsBodyOf (schema : Schema) (inst : Instance) (vars indexes : List ℕ) (formula : Formula) : Type 0 where
  pub scope : List ℕ
  pub is_scope : IsScope schema inst vars scope
  pub declared : AllIn (length schema.indexes) indexes
  pub few : length scope + length indexes ≤ most_variables
  pub typed : is_typed schema formula (scope ++ indexes) ≡ true

abbrev pub BodyIn : Evaluator → List ℕ → List ℕ → Formula → Type 0
BodyIn e vars indexes formula = IsBodyOf e.schema.now e.inst.now vars indexes formula
