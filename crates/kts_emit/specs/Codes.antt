-- The code of terms and formulas.
use Rattle.std.specs.Prelude.{pos, List, [], ◌∷◌, Bool, true, false, if◌then◌else◌}
use Rattle.kts_code.specs.declared.instructions.Instr.{Instr}
use Rattle.kts_code.specs.declared.instructions.Instr.TheVariants as i
use Rattle.kts_spec.specs.declared.tree.Comparison.{Comparison}
use Rattle.kts_spec.specs.declared.tree.Comparison.TheVariants.{Le, Lt, Ge, Gt, Eq, Ne, Same, Other}
use Rattle.kts_spec.specs.declared.tree.Term.{Term}
use Rattle.kts_spec.specs.declared.tree.Formula.{Formula}
use Rattle.kts_spec.specs.declared.tree.Formula.TheOpen.{Formula-F, Compare, And, Or, Not, Implies, Forall, Exists, Term-F, Number, Var, Given, Choice, Add, Sub, Mul, Min, Max, Sum}
use Rattle.kts_spec.specs.declared.tree.Formula.TheFolds.{fold-Formula, fold-Term}
use Rattle.kts_emit.specs.Fragments.{Fragment, operation, chain, loop, begun, nested_loops}

-- whether the second side of a comparison is pushed before the first
abbrev pub is_turned : Comparison → Bool
is_turned Le = false
is_turned Lt = true
is_turned Ge = true
is_turned Gt = false
is_turned Eq = false
is_turned Ne = false
is_turned Same = false
is_turned Other = false

-- what tests the two sides
abbrev pub test_code : Comparison → List Instr
test_code Le = i.Le ∷ []
test_code Lt = i.Le ∷ (i.Not ∷ [])
test_code Ge = i.Le ∷ []
test_code Gt = i.Le ∷ (i.Not ∷ [])
test_code Eq = i.Eq ∷ []
test_code Ne = i.Eq ∷ (i.Not ∷ [])
test_code Same = i.Same ∷ []
test_code Other = i.Same ∷ (i.Not ∷ [])

-- two sides and their test
abbrev pub comparison_code : Comparison → Fragment → Fragment → Fragment
comparison_code c a b = operation (if is_turned c then b ∷ a ∷ [] else a ∷ b ∷ []) (test_code c)

-- the contrary
abbrev pub negated : Fragment → Fragment
negated code = operation (code ∷ []) (i.Not ∷ [])

abbrev pub term_step : Term-F Fragment Fragment → Fragment
term_step (Number n) = operation [] (i.Num n ∷ [])
term_step (Var k) = operation [] (i.Var k ∷ [])
term_step (Given f args) = operation args (i.Given f ∷ [])
term_step (Choice x args) = operation args (i.Choice x ∷ [])
term_step (Add parts) = chain i.Add parts
term_step (Sub parts) = operation parts (i.Sub ∷ [])
term_step (Mul parts) = operation parts (i.Mul ∷ [])
term_step (Min parts) = operation parts (i.Min ∷ [])
term_step (Max parts) = operation parts (i.Max ∷ [])
term_step (Sum index p a) = begun (i.Num (pos 0)) (loop index (operation (p ∷ a ∷ []) (i.Gate ∷ (i.Add ∷ []))))

abbrev pub formula_step : Formula-F Fragment Fragment → Fragment
formula_step (Compare c a b) = comparison_code c a b
formula_step (And parts) = chain i.And parts
formula_step (Or parts) = chain i.Or parts
formula_step (Not p) = negated p
formula_step (Implies p q) = operation (negated p ∷ q ∷ []) (i.Or ∷ [])
formula_step (Forall indexes p) = nested_loops i.True i.And indexes p
formula_step (Exists indexes p) = nested_loops i.False i.Or indexes p

-- what pushes the value of a term
unfoldable pub term_code : Term → Fragment
term_code = fold-Term Fragment Fragment formula_step term_step

-- what pushes the truth of a formula
unfoldable pub formula_code : Formula → Fragment
formula_code = fold-Formula Fragment Fragment formula_step term_step
