-- The bodies of the constraints of two formulas, instruction by instruction.
use Rattle.std.specs.Prelude.{◌≡◌, pos, List, [], ◌∷◌}
use Rattle.kts_code.specs.declared.instructions.Instr.{Instr}
use Rattle.kts_code.specs.declared.instructions.Instr.TheVariants as i
use Rattle.kts_plan.specs.Constraints.{constraints_of}
use Rattle.kts_plan.specs.Plans.{clauses_in}
use Rattle.kts_plan.specs.WorkedPlans.{release}
use Rattle.kts_spec.specs.declared.tree.Comparison.TheVariants.{Lt, Other}
use Rattle.kts_spec.specs.declared.tree.Term.TheVariants.{Add}
use Rattle.kts_spec.specs.declared.tree.Formula.{Formula}
use Rattle.kts_spec.specs.declared.tree.Formula.TheVariants as formula
use Rattle.kts_spec.specs.Examples.{number, choice, given, var}
use Rattle.kts_emit.specs.BodyRuns.{bodies_code, entries_from}

-- (forall (r Req) (or (not (/= (trip r) (home r))) (< (+ (rel r) (start (home r))) 4)))
abbrev pub turn : Formula
turn =
    let at_home : Formula = formula.Not (formula.Compare Other (choice 0 (var 0 ∷ [])) (given 1 (var 0 ∷ []))) in
    let early : Formula = formula.Compare Lt (Add (given 0 (var 0 ∷ []) ∷ choice 1 (given 1 (var 0 ∷ []) ∷ []) ∷ [])) (number 4) in
    formula.Forall (0 ∷ []) (formula.Or (at_home ∷ early ∷ []))

-- of the release and of this, from place 9 on: back to place 1, and to place 6 where nothing is left of a cell
abbrev pub worked_bodies : List Instr
worked_bodies =
    i.Var 0 ∷ i.Given 0 ∷ i.Var 1 ∷ i.Choice 1 ∷ i.Le ∷ i.Need 1
    ∷ i.Var 0 ∷ i.Var 1 ∷ i.Without 0 6 ∷ i.Jump 1
    ∷ i.Var 0 ∷ i.Choice 0 ∷ i.Var 1 ∷ i.Same ∷ i.Not ∷ i.Need 1
    ∷ i.Var 1 ∷ i.Var 0 ∷ i.Given 0 ∷ i.AtLeast 1 6 ∷ i.Jump 1
    ∷ i.Num (pos 4) ∷ i.Var 0 ∷ i.Given 0 ∷ i.Var 0 ∷ i.Given 1 ∷ i.Choice 1 ∷ i.Add ∷ i.Le ∷ i.Not ∷ i.Need 1
    ∷ i.Var 0 ∷ i.Var 0 ∷ i.Given 1 ∷ i.Within 0 6 ∷ i.Jump 1
    ∷ i.Var 0 ∷ i.Choice 0 ∷ i.Var 0 ∷ i.Given 1 ∷ i.Same ∷ i.Not ∷ i.Not ∷ i.Need 1
    ∷ i.Var 0 ∷ i.Given 1
    ∷ i.Num (pos 0) ∷ i.Var 0 ∷ i.Given 0 ∷ i.Sub ∷ i.Num (pos 4) ∷ i.Add ∷ i.Num (pos 1) ∷ i.Sub
    ∷ i.AtMost 1 6 ∷ i.Jump 1
    ∷ []

pub record BodiesAreAsWorked : Type 0 where
  pub code : bodies_code 1 6 (constraints_of (clauses_in (release ∷ turn ∷ []))) 9 ≡ worked_bodies
  pub entries : entries_from 9 (constraints_of (clauses_in (release ∷ turn ∷ []))) ≡ 9 ∷ 19 ∷ 30 ∷ 45 ∷ []
