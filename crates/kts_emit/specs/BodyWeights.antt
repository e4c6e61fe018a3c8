-- The weight of a body, which bounds its steps, and its length.
use Rattle.std.specs.Prelude.{◌≡◌, ℕ, ◌+◌, List, [], ◌∷◌, length, map, Bool, true, false}
use Rattle.kts_clause.specs.declared.literal.Literal.{Literal}
use Rattle.kts_plan.specs.declared.bound.Bound.{Bound}
use Rattle.kts_plan.specs.declared.bound.Bound.TheVariants.{Rest, Side}
use Rattle.kts_plan.specs.declared.head.Head.{Head}
use Rattle.kts_plan.specs.Constraints.{Constraint}
use Rattle.kts_spec.specs.declared.tree.Term.{Term}
use Rattle.kts_emit.specs.Bodies.{body_code}
use Rattle.kts_emit.specs.Weights.{sequence_weight, chain_rest_weight, weight_of_term, weight_of_formula, once}

-- of what makes the contrary
abbrev pub sign_weight : Bool → ℕ
sign_weight false = 0
sign_weight true = 1

-- of what makes an addend the first of a sum
abbrev pub first_weight : Bool → ℕ
first_weight false = 0
first_weight true = 2

-- `size` is the number of members of an index
module _ (size : ℕ → ℕ) where
  abbrev pub literal_weight : Literal → ℕ
  literal_weight l = weight_of_formula size l.formula + sign_weight l.negative

  abbrev pub later_weight : List (Bool × Term) → ℕ
  later_weight [] = 0
  later_weight (a ∷ addends) = weight_of_term size a.1 + 1 + later_weight addends

  abbrev pub sum_weight : List (Bool × Term) → ℕ
  sum_weight [] = 1
  sum_weight (a ∷ addends) = weight_of_term size a.1 + first_weight a.0 + later_weight addends

  abbrev pub bound_weight : Bound → ℕ
  bound_weight (Rest addends) = sum_weight addends
  bound_weight (Side t) = weight_of_term size t

  abbrev pub head_weight : Head → ℕ
  head_weight h = sequence_weight (map (weight_of_term size) h.args) + bound_weight h.bound + 2

  -- the weight of the body of a constraint
  abbrev pub body_weight : Constraint → ℕ
  body_weight c = chain_rest_weight (map literal_weight c.others) + head_weight c.head

-- the length of a body: its weight where each index has one member
abbrev pub length_of_body : Constraint → ℕ
length_of_body = body_weight once

-- wherever it stands, with whatever labels and however many variables in scope, a body has its length
abbrev pub BodiesHaveLength : Type 0
BodiesHaveLength = (c : Constraint) (done fail place vars : ℕ) → length (body_code c done fail place vars) ≡ length_of_body c
