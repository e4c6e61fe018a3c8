-- The code of a search with a filter and the tasks of two constraints, instruction by instruction.
use Rattle.std.specs.Prelude.{◌≡◌, pos, List, [], ◌∷◌}
use Rattle.kts_code.specs.declared.instructions.Instr.{Instr}
use Rattle.kts_code.specs.declared.instructions.Instr.TheVariants as i
use Rattle.kts_plan.specs.WorkedPlans.{release, capacity}
use Rattle.kts_spec.specs.declared.spec.Spec.{Spec}
use Rattle.kts_spec.specs.declared.tree.Formula.{Formula}
use Rattle.kts_spec.specs.Answers.{formulas_of}
use Rattle.kts_search.specs.WholeScheme.{whole_entries, whole_instrs}

-- the release has two constraints, and the capacity none
abbrev pub worked_formulas : List Formula
worked_formulas = release ∷ capacity ∷ []

abbrev pub worked_search : List Instr
worked_search =
    i.Start 26 ∷ i.Take 2 ∷ i.Node
    ∷ i.True ∷ i.First 0 1 20
    ∷ i.Num (pos 0) ∷ i.First 1 0 16
    ∷ i.Var 1 ∷ i.Choice 0 ∷ i.Var 0 ∷ i.Same ∷ i.Var 1 ∷ i.Given 0 ∷ i.Gate ∷ i.Add
    ∷ i.Next 1 7
    ∷ i.Num (pos 5) ∷ i.Le ∷ i.And
    ∷ i.Next 0 5
    ∷ i.Test 24
    ∷ i.Pick 23 ∷ i.Jump 1 ∷ i.Emit ∷ i.Back 26 ∷ i.Jump 1 ∷ i.Halt
    ∷ i.Var 0 ∷ i.Given 0 ∷ i.Var 1 ∷ i.Choice 1 ∷ i.Le ∷ i.Need 1
    ∷ i.Var 0 ∷ i.Var 1 ∷ i.Without 0 24 ∷ i.Jump 1
    ∷ i.Var 0 ∷ i.Choice 0 ∷ i.Var 1 ∷ i.Same ∷ i.Not ∷ i.Need 1
    ∷ i.Var 1 ∷ i.Var 0 ∷ i.Given 0 ∷ i.AtLeast 1 24 ∷ i.Jump 1
    ∷ []

pub record SearchIsAsWorked : Type 0 where
  pub code : (spec : Spec) → formulas_of spec ≡ worked_formulas → whole_instrs spec ≡ worked_search
  pub entries : (spec : Spec) → formulas_of spec ≡ worked_formulas → whole_entries spec ≡ 27 ∷ 37 ∷ []
