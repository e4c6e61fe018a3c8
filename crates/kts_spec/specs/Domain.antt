-- What terms and formulas mean, in any domain of values and truth values.
use Rattle.std.specs.Prelude.{ℕ, List, [], ◌∷◌, ◌++◌, map, ℤ, pos, fold, slice_index}
use Rattle.std.specs.List.{range_with_len}
use Rattle.kts_spec.specs.declared.tree.Comparison.{Comparison}
use Rattle.kts_spec.specs.declared.tree.Comparison.TheVariants.{Le, Lt, Ge, Gt, Eq, Ne, Same, Other}
use Rattle.kts_spec.specs.declared.tree.Term.{Term}
use Rattle.kts_spec.specs.declared.tree.Formula.{Formula}
use Rattle.kts_spec.specs.declared.tree.Formula.TheOpen.{Formula-F, Compare, And, Or, Not, Implies, Forall, Exists, Term-F, Number, Var, Given, Choice, Add, Sub, Mul, Min, Max, Sum}
use Rattle.kts_spec.specs.declared.tree.Formula.TheFolds.{fold-Formula, fold-Term}

-- values T, truth values B, and the operations on them
pub record Domain (T B : Type 0) : Type 0 where
  pub number : ℤ → T
  pub member : ℕ → T
  -- the value of a given, and of a choice, at these arguments
  pub given : ℕ → List T → T
  pub choice : ℕ → List T → T
  pub add : T → T → T
  pub sub : T → T → T
  pub mul : T → T → T
  pub least : T → T → T
  pub greatest : T → T → T
  -- the value where the truth value holds, else 0
  pub gate : B → T → T
  -- at most, and equal, of whole numbers
  pub le : T → T → B
  pub eq : T → T → B
  -- equal, of members
  pub same : T → T → B
  pub yes : B
  pub no : B
  pub both : B → B → B
  pub either : B → B → B
  pub neg : B → B

-- what each gives for these members as the variables in scope
abbrev pub at_each : {X : Type 0} → List ℕ → List (List ℕ → X) → List X
at_each vars = map (λ f. f vars)

-- the operation on two values; z where there are not two
abbrev pub of_two : {T : Type 0} → (T → T → T) → T → List T → T
of_two f z (a ∷ b ∷ []) = f a b
of_two f z other = z

-- the truths at all members of indexes of these sizes, put together
abbrev pub over : {B : Type 0} → (B → B → B) → B → List ℕ → (List ℕ → B) → List ℕ → B
over op z [] f vars = f vars
over op z (n ∷ sizes) f vars = fold op z (map (λ m. over op z sizes f (vars ++ m ∷ [])) (range_with_len 0 n))

-- `size` is the number of members of an index. A meaning depends on the members that are the variables in scope.
module _ {T B : Type 0} (size : ℕ → ℕ) (d : Domain T B) where
  -- a comparison of two values
  abbrev pub comparison_truth : Comparison → T → T → B
  comparison_truth Le a b = d.le a b
  comparison_truth Lt a b = d.neg (d.le b a)
  comparison_truth Ge a b = d.le b a
  comparison_truth Gt a b = d.neg (d.le a b)
  comparison_truth Eq a b = d.eq a b
  comparison_truth Ne a b = d.neg (d.eq a b)
  comparison_truth Same a b = d.same a b
  comparison_truth Other a b = d.neg (d.same a b)

  -- a variant of term over what its parts mean
  abbrev pub term_step : Term-F (List ℕ → B) (List ℕ → T) → List ℕ → T
  term_step (Number n) vars = d.number n
  term_step (Var k) vars = d.member (slice_index vars k)
  term_step (Given f args) vars = d.given f (at_each vars args)
  term_step (Choice x args) vars = d.choice x (at_each vars args)
  term_step (Add parts) vars = fold d.add (d.number (pos 0)) (at_each vars parts)
  term_step (Sub parts) vars = of_two d.sub (d.number (pos 0)) (at_each vars parts)
  term_step (Mul parts) vars = of_two d.mul (d.number (pos 0)) (at_each vars parts)
  term_step (Min parts) vars = of_two d.least (d.number (pos 0)) (at_each vars parts)
  term_step (Max parts) vars = of_two d.greatest (d.number (pos 0)) (at_each vars parts)
  term_step (Sum index p a) vars =
      fold d.add (d.number (pos 0)) (map (λ m. d.gate (p (vars ++ m ∷ [])) (a (vars ++ m ∷ []))) (range_with_len 0 (size index)))

  -- a variant of formula over what its parts mean
  abbrev pub formula_step : Formula-F (List ℕ → B) (List ℕ → T) → List ℕ → B
  formula_step (Compare c a b) vars = comparison_truth c (a vars) (b vars)
  formula_step (And parts) vars = fold d.both d.yes (at_each vars parts)
  formula_step (Or parts) vars = fold d.either d.no (at_each vars parts)
  formula_step (Not p) vars = d.neg (p vars)
  formula_step (Implies p q) vars = d.either (d.neg (p vars)) (q vars)
  formula_step (Forall indexes p) vars = over d.both d.yes (map size indexes) p vars
  formula_step (Exists indexes p) vars = over d.either d.no (map size indexes) p vars

  -- the value of a term
  unfoldable pub value : Term → List ℕ → T
  value = fold-Term (List ℕ → B) (List ℕ → T) formula_step term_step

  -- the truth of a formula
  unfoldable pub truth : Formula → List ℕ → B
  truth = fold-Formula (List ℕ → B) (List ℕ → T) formula_step term_step
