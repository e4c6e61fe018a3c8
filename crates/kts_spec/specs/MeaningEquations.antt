-- What each variant of term and formula means on a schedule, one equation or fact a variant.
use Rattle.std.specs.Prelude.{◌≡◌, ◌≢◌, ◌↔◌, IsTrue, ℕ, ℤ, pos, ◌+ℤ◌, ◌-ℤ◌, ◌*ℤ◌, ◌≤ℤ◌, ◌<ℤ◌, List, [], ◌∷◌, ◌++◌, map, fold, slice_index, Bool, not, ◌||◌, if◌then◌else◌}
use Rattle.std.specs.Int.{int_min, int_max}
use Rattle.std.specs.List.{list_all, list_any, range_with_len}
use Rattle.kts_spec.specs.declared.tree.Comparison.{Comparison}
use Rattle.kts_spec.specs.declared.tree.Comparison.TheVariants.{Le, Lt, Ge, Gt, Eq, Ne, Same, Other}
use Rattle.kts_spec.specs.declared.tree.Term.{Term}
use Rattle.kts_spec.specs.declared.tree.Term.TheVariants as term
use Rattle.kts_spec.specs.declared.tree.Formula.{Formula}
use Rattle.kts_spec.specs.declared.tree.Formula.TheVariants as formula
use Rattle.kts_spec.specs.Meaning.{value_on, truth_on}
use Rattle.kts_spec.specs.Places.{cell, entry, lookup}
use Rattle.kts_spec.specs.Worlds.{World, size_of, table_of}

-- what a comparison says of two numbers
abbrev pub Holds : Comparison → ℤ → ℤ → Type 0
Holds Le a b = a ≤ℤ b
Holds Lt a b = a <ℤ b
Holds Ge a b = b ≤ℤ a
Holds Gt a b = b <ℤ a
Holds Eq a b = a ≡ b
Holds Ne a b = a ≢ b
Holds Same a b = a ≡ b
Holds Other a b = a ≢ b

-- whether a test holds with all members of indexes of these sizes as further variables
abbrev pub for_all : List ℕ → (List ℕ → Bool) → List ℕ → Bool
for_all [] test vars = test vars
for_all (n ∷ sizes) test vars = list_all (λ m. for_all sizes test (vars ++ m ∷ [])) (range_with_len 0 n)

-- whether a test holds with some members of them
abbrev pub for_some : List ℕ → (List ℕ → Bool) → List ℕ → Bool
for_some [] test vars = test vars
for_some (n ∷ sizes) test vars = list_any (λ m. for_some sizes test (vars ++ m ∷ [])) (range_with_len 0 n)

-- the sum of numbers
abbrev pub total : List ℤ → ℤ
total = fold ◌+ℤ◌ (pos 0)

-- the values of terms
abbrev pub values_on : World → List ℤ → List Term → List ℕ → List ℤ
values_on w schedule terms vars = map (λ t. value_on w schedule t vars) terms

-- each variant of term
pub record TermsMean (w : World) (schedule : List ℤ) (vars : List ℕ) : Type 0 where
  pub number : (n : ℤ) → value_on w schedule (term.Number n) vars ≡ n
  pub variable : (k : ℕ) → value_on w schedule (term.Var k) vars ≡ pos (slice_index vars k)
  pub given : (f : ℕ) (args : List Term) → value_on w schedule (term.Given f args) vars ≡ lookup (table_of w f) (entry w f (values_on w schedule args vars)) (pos 0)
  pub choice : (x : ℕ) (args : List Term) → value_on w schedule (term.Choice x args) vars ≡ lookup schedule (cell w x (values_on w schedule args vars)) (pos 0)
  pub add : (parts : List Term) → value_on w schedule (term.Add parts) vars ≡ total (values_on w schedule parts vars)
  pub sub : (a b : Term) → value_on w schedule (term.Sub (a ∷ b ∷ [])) vars ≡ value_on w schedule a vars -ℤ value_on w schedule b vars
  pub mul : (a b : Term) → value_on w schedule (term.Mul (a ∷ b ∷ [])) vars ≡ value_on w schedule a vars *ℤ value_on w schedule b vars
  pub min : (a b : Term) → value_on w schedule (term.Min (a ∷ b ∷ [])) vars ≡ int_min (value_on w schedule a vars) (value_on w schedule b vars)
  pub max : (a b : Term) → value_on w schedule (term.Max (a ∷ b ∷ [])) vars ≡ int_max (value_on w schedule a vars) (value_on w schedule b vars)
  pub sum : (i : ℕ) (p : Formula) (a : Term) → value_on w schedule (term.Sum i p a) vars
      ≡ total (map (λ m. if truth_on w schedule p (vars ++ m ∷ []) then value_on w schedule a (vars ++ m ∷ []) else pos 0) (range_with_len 0 (size_of w i)))

-- each variant of formula
pub record FormulasMean (w : World) (schedule : List ℤ) (vars : List ℕ) : Type 0 where
  pub compare : (c : Comparison) (a b : Term) → IsTrue (truth_on w schedule (formula.Compare c a b) vars) ↔ Holds c (value_on w schedule a vars) (value_on w schedule b vars)
  pub conjunction : (parts : List Formula) → truth_on w schedule (formula.And parts) vars ≡ list_all (λ p. truth_on w schedule p vars) parts
  pub disjunction : (parts : List Formula) → truth_on w schedule (formula.Or parts) vars ≡ list_any (λ p. truth_on w schedule p vars) parts
  pub negation : (p : Formula) → truth_on w schedule (formula.Not p) vars ≡ not (truth_on w schedule p vars)
  pub implication : (p q : Formula) → truth_on w schedule (formula.Implies p q) vars ≡ (not (truth_on w schedule p vars) || truth_on w schedule q vars)
  pub universal : (indexes : List ℕ) (p : Formula) → truth_on w schedule (formula.Forall indexes p) vars ≡ for_all (map (size_of w) indexes) (truth_on w schedule p) vars
  pub existential : (indexes : List ℕ) (p : Formula) → truth_on w schedule (formula.Exists indexes p) vars ≡ for_some (map (size_of w) indexes) (truth_on w schedule p) vars

-- on every world, schedule and variables
abbrev pub AllTermsMean : Type 0
AllTermsMean = (w : World) (schedule : List ℤ) (vars : List ℕ) → TermsMean w schedule vars

abbrev pub AllFormulasMean : Type 0
AllFormulasMean = (w : World) (schedule : List ℤ) (vars : List ℕ) → FormulasMean w schedule vars
