-- The comparisons in a term or a formula, in the order of the text, each with its scope.
use Rattle.std.specs.Prelude.{ℕ, List, [], ◌∷◌, ◌++◌, flat_map}
use Rattle.kts_spec.specs.declared.tree.Comparison.{Comparison}
use Rattle.kts_spec.specs.declared.tree.Term.{Term}
use Rattle.kts_spec.specs.declared.tree.Formula.{Formula}
use Rattle.kts_spec.specs.declared.tree.Formula.TheOpen.{Formula-F, Compare, And, Or, Not, Implies, Forall, Exists, Term-F, Number, Var, Given, Choice, Add, Sub, Mul, Min, Max, Sum}
use Rattle.kts_spec.specs.declared.tree.Formula.TheFolds.{para-Formula, para-Term}

-- a comparison of two terms, and the indexes of the variables in scope there
pub record ComparisonInScope : Type 0 where
  pub comparison : Comparison
  pub left : Term
  pub right : Term
  pub scope : List ℕ

-- the comparisons in trees side by side, all in one scope; each tree stands before its own
abbrev pub compared_in_each : {X : Type 0} → List (X × (List ℕ → List ComparisonInScope)) → List ℕ → List ComparisonInScope
compared_in_each parts scope = flat_map (λ part. part.1 scope) parts

abbrev pub term_comparisons : Term-F (Formula × (List ℕ → List ComparisonInScope)) (Term × (List ℕ → List ComparisonInScope)) → List ℕ → List ComparisonInScope
term_comparisons (Number n) scope = []
term_comparisons (Var k) scope = []
term_comparisons (Given f args) scope = compared_in_each args scope
term_comparisons (Choice x args) scope = compared_in_each args scope
term_comparisons (Add parts) scope = compared_in_each parts scope
term_comparisons (Sub parts) scope = compared_in_each parts scope
term_comparisons (Mul parts) scope = compared_in_each parts scope
term_comparisons (Min parts) scope = compared_in_each parts scope
term_comparisons (Max parts) scope = compared_in_each parts scope
term_comparisons (Sum index p a) scope = p.1 (scope ++ index ∷ []) ++ a.1 (scope ++ index ∷ [])

abbrev pub formula_comparisons : Formula-F (Formula × (List ℕ → List ComparisonInScope)) (Term × (List ℕ → List ComparisonInScope)) → List ℕ → List ComparisonInScope
formula_comparisons (Compare c a b) scope =
    record { comparison = c; left = a.0; right = b.0; scope = scope } ∷ (a.1 scope ++ b.1 scope)
formula_comparisons (And parts) scope = compared_in_each parts scope
formula_comparisons (Or parts) scope = compared_in_each parts scope
formula_comparisons (Not p) scope = p.1 scope
formula_comparisons (Implies p q) scope = p.1 scope ++ q.1 scope
formula_comparisons (Forall indexes p) scope = p.1 (scope ++ indexes)
formula_comparisons (Exists indexes p) scope = p.1 (scope ++ indexes)

-- the comparisons in a term that stands in this scope
unfoldable pub comparisons_of : Term → List ℕ → List ComparisonInScope
comparisons_of = para-Term (List ℕ → List ComparisonInScope) (List ℕ → List ComparisonInScope) formula_comparisons term_comparisons

-- the comparisons in a formula that stands in this scope
unfoldable pub comparisons_in : Formula → List ℕ → List ComparisonInScope
comparisons_in = para-Formula (List ℕ → List ComparisonInScope) (List ℕ → List ComparisonInScope) formula_comparisons term_comparisons
