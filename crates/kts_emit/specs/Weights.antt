-- The weight of code, which bounds its steps: its length, where each loop's part is counted once for each member of its index.
use Rattle.std.specs.Prelude.{ℕ, ◌+◌, ◌*◌, List, [], ◌∷◌}
use Rattle.kts_spec.specs.declared.tree.Comparison.{Comparison}
use Rattle.kts_spec.specs.declared.tree.Comparison.TheVariants.{Le, Lt, Ge, Gt, Eq, Ne, Same, Other}
use Rattle.kts_spec.specs.declared.tree.Term.{Term}
use Rattle.kts_spec.specs.declared.tree.Formula.{Formula}
use Rattle.kts_spec.specs.declared.tree.Formula.TheOpen.{Formula-F, Compare, And, Or, Not, Implies, Forall, Exists, Term-F, Number, Var, Given, Choice, Add, Sub, Mul, Min, Max, Sum}
use Rattle.kts_spec.specs.declared.tree.Formula.TheFolds.{fold-Formula, fold-Term}

-- of operands one after the other
abbrev pub sequence_weight : List ℕ → ℕ
sequence_weight [] = 0
sequence_weight (w ∷ ws) = w + sequence_weight ws

-- of operands that are each joined to what is before them
abbrev pub chain_rest_weight : List ℕ → ℕ
chain_rest_weight [] = 0
chain_rest_weight (w ∷ ws) = w + 1 + chain_rest_weight ws

-- of operands that are joined, from the first on
abbrev pub chain_weight : List ℕ → ℕ
chain_weight [] = 0
chain_weight (w ∷ ws) = w + chain_rest_weight ws

-- of what tests the sides of a comparison
abbrev pub test_weight : Comparison → ℕ
test_weight Le = 1
test_weight Lt = 2
test_weight Ge = 1
test_weight Gt = 2
test_weight Eq = 1
test_weight Ne = 2
test_weight Same = 1
test_weight Other = 2

-- `size` is the number of members of an index
module _ (size : ℕ → ℕ) where
  -- of a loop round a body of this weight
  abbrev pub loop_weight : ℕ → ℕ → ℕ
  loop_weight index body = 1 + size index * (body + 1)

  abbrev pub nested_weight : List ℕ → ℕ → ℕ
  nested_weight [] body = body
  nested_weight (index ∷ indexes) body = 1 + loop_weight index (nested_weight indexes body + 1)

  abbrev pub term_weight : Term-F ℕ ℕ → ℕ
  term_weight (Number n) = 1
  term_weight (Var k) = 1
  term_weight (Given f args) = sequence_weight args + 1
  term_weight (Choice x args) = sequence_weight args + 1
  term_weight (Add parts) = chain_weight parts
  term_weight (Sub parts) = sequence_weight parts + 1
  term_weight (Mul parts) = sequence_weight parts + 1
  term_weight (Min parts) = sequence_weight parts + 1
  term_weight (Max parts) = sequence_weight parts + 1
  term_weight (Sum index p a) = 1 + loop_weight index (p + a + 2)

  abbrev pub formula_weight : Formula-F ℕ ℕ → ℕ
  formula_weight (Compare c a b) = a + b + test_weight c
  formula_weight (And parts) = chain_weight parts
  formula_weight (Or parts) = chain_weight parts
  formula_weight (Not p) = p + 1
  formula_weight (Implies p q) = p + 1 + q + 1
  formula_weight (Forall indexes p) = nested_weight indexes p
  formula_weight (Exists indexes p) = nested_weight indexes p

  -- the weight of the code of a term
  unfoldable pub weight_of_term : Term → ℕ
  weight_of_term = fold-Term ℕ ℕ formula_weight term_weight

  -- the weight of the code of a formula
  unfoldable pub weight_of_formula : Formula → ℕ
  weight_of_formula = fold-Formula ℕ ℕ formula_weight term_weight

-- each index with one member
abbrev pub once : ℕ → ℕ
once index = 1

-- the length of code: its weight where each loop's part is counted once
abbrev pub length_of_term : Term → ℕ
length_of_term = weight_of_term once

abbrev pub length_of_formula : Formula → ℕ
length_of_formula = weight_of_formula once
