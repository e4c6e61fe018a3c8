-- The code of two formulas, instruction by instruction.
use Rattle.std.specs.Prelude.{◌≡◌, pos, negsuc, List, [], ◌∷◌}
use Rattle.kts_code.specs.declared.instructions.Instr.{Instr}
use Rattle.kts_code.specs.declared.instructions.Instr.TheVariants as i
use Rattle.kts_spec.specs.declared.tree.Comparison.TheVariants as c
use Rattle.kts_spec.specs.declared.tree.Term.{Term}
use Rattle.kts_spec.specs.declared.tree.Term.TheVariants.{Number, Var, Given, Choice, Add, Sub, Mul, Max, Sum}
use Rattle.kts_spec.specs.declared.tree.Formula.{Formula}
use Rattle.kts_spec.specs.declared.tree.Formula.TheVariants.{Compare, And, Not, Implies, Forall, Exists}
use Rattle.kts_emit.specs.Codes.{formula_code}

-- (forall (t Trip) (<= (sum (r Req) (= (trip r) t) (load r)) (cap t)))
abbrev pub capacity : Formula
capacity =
    let is_carried : Formula = Compare c.Same (Choice 0 (Var 1 ∷ [])) (Var 0) in
    Forall (0 ∷ []) (Compare c.Le (Sum 1 is_carried (Given 0 (Var 1 ∷ []))) (Given 1 (Var 0 ∷ [])))

-- its code from place 3 on
abbrev pub capacity_code : List Instr
capacity_code =
    i.True ∷ i.First 0 0 21
    ∷ i.Num (pos 0) ∷ i.First 1 1 16
    ∷ i.Var 1 ∷ i.Choice 0 ∷ i.Var 0 ∷ i.Same ∷ i.Var 1 ∷ i.Given 0 ∷ i.Gate ∷ i.Add
    ∷ i.Next 1 7
    ∷ i.Var 0 ∷ i.Given 1 ∷ i.Le ∷ i.And
    ∷ i.Next 0 5
    ∷ []

-- (max -2 (* 3 (cap v))), and (+ 1 2 (- 5 4))
abbrev pub greater : Term
greater = Max (Number (negsuc 1) ∷ Mul (Number (pos 3) ∷ Given 1 (Var 0 ∷ []) ∷ []) ∷ [])

abbrev pub total : Term
total = Add (Number (pos 1) ∷ Number (pos 2) ∷ Sub (Number (pos 5) ∷ Number (pos 4) ∷ []) ∷ [])

-- (and (> 1 2) (not (< 7 8)) (>= 1 0))
abbrev pub tests : Formula
tests =
    And (
    Compare c.Gt (Number (pos 1)) (Number (pos 2))
    ∷ Not (Compare c.Lt (Number (pos 7)) (Number (pos 8)))
    ∷ Compare c.Ge (Number (pos 1)) (Number (pos 0))
    ∷ []
    )

-- (exists (u Trip) (v Req) (=> (/= greater total) tests))
abbrev pub mixture : Formula
mixture = Exists (0 ∷ 1 ∷ []) (Implies (Compare c.Ne greater total) tests)

-- its code from place 7 on, with one variable in scope
abbrev pub mixture_code : List Instr
mixture_code =
    i.False ∷ i.First 1 0 46
    ∷ i.False ∷ i.First 2 1 44
    ∷ i.Num (negsuc 1) ∷ i.Num (pos 3) ∷ i.Var 0 ∷ i.Given 1 ∷ i.Mul ∷ i.Max
    ∷ i.Num (pos 1) ∷ i.Num (pos 2) ∷ i.Add ∷ i.Num (pos 5) ∷ i.Num (pos 4) ∷ i.Sub ∷ i.Add
    ∷ i.Eq ∷ i.Not ∷ i.Not
    ∷ i.Num (pos 1) ∷ i.Num (pos 2) ∷ i.Le ∷ i.Not
    ∷ i.Num (pos 8) ∷ i.Num (pos 7) ∷ i.Le ∷ i.Not ∷ i.Not ∷ i.And
    ∷ i.Num (pos 0) ∷ i.Num (pos 1) ∷ i.Le ∷ i.And
    ∷ i.Or
    ∷ i.Or ∷ i.Next 2 11
    ∷ i.Or ∷ i.Next 1 9
    ∷ []

pub record CodeIsAsWorked : Type 0 where
  pub first : formula_code capacity 3 0 ≡ capacity_code
  pub second : formula_code mixture 7 1 ≡ mixture_code
