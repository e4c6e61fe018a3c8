-- What each variant of term and formula means on a schedule.
use Rattle.std.proofs.Common.{◌≡◌, ◌≢◌, ◌↔◌, refl, ◌∙◌, arith, ℕ, ℤ, pos, ◌-ℤ◌, ◌*ℤ◌, ◌≤ℤ◌, List, [], ◌∷◌, ◌++◌, map, fold, slice_index, Bool, true, false, not, ◌&&◌, ◌||◌, if◌then◌else◌, IsTrue}
use Rattle.std.specs.Int.{int_min, int_max}
use Rattle.std.specs.List.{list_all, list_any, range_with_len}
use Rattle.std.proofs.lemmas.Int.{ints}
use Rattle.kts_spec.specs.declared.tree.Comparison.{Comparison}
use Rattle.kts_spec.specs.declared.tree.Comparison.TheVariants.{Le, Lt, Ge, Gt, Eq, Ne, Same, Other}
use Rattle.kts_spec.specs.declared.tree.Term.{Term}
use Rattle.kts_spec.specs.declared.tree.Term.TheVariants as term
use Rattle.kts_spec.specs.declared.tree.Formula.{Formula}
use Rattle.kts_spec.specs.declared.tree.Formula.TheVariants as formula
use Rattle.kts_spec.specs.Domain.{comparison_truth, of_two, over}
use Rattle.kts_spec.specs.MeaningEquations.{Holds, for_all, for_some, total, values_on, TermsMean, FormulasMean}
use Rattle.kts_spec.specs.Meaning.{on_schedule, value_on, truth_on, int_same}
use Rattle.kts_spec.specs.Places.{cell, entry, lookup}
use Rattle.kts_spec.specs.Worlds.{World, size_of, table_of}
use Rattle.kts_spec.proofs.Values.{value-Number, value-Var, value-Given, value-Choice, value-Add, value-Sub, value-Mul, value-Min, value-Max, value-Sum, truth-Compare, truth-And, truth-Or, truth-Not, truth-Implies, truth-Forall, truth-Exists}

-- a fold of `&&` from any truth value, as one test of each
fold_and : {X : Type 0} (f : X → Bool) (xs : List X) (b : Bool) → fold ◌&&◌ b (map f xs) ≡ (b && list_all f xs)
fold_and f [] b = grind arith
fold_and f (x ∷ xs) b = fold_and f xs (b && f x) ∙ grind arith

fold_or : {X : Type 0} (f : X → Bool) (xs : List X) (b : Bool) → fold ◌||◌ b (map f xs) ≡ (b || list_any f xs)
fold_or f [] b = grind arith
fold_or f (x ∷ xs) b = fold_or f xs (b || f x) ∙ grind arith

-- equal tests hold of all, and of some, alike
pub same_list_all : (f g : ℕ → Bool) (ns : List ℕ) → ((n : ℕ) → f n ≡ g n) → list_all f ns ≡ list_all g ns
same_list_all f g [] h = refl
same_list_all f g (n ∷ ns) h = let e = h n in let r = same_list_all f g ns h in cc

pub same_list_any : (f g : ℕ → Bool) (ns : List ℕ) → ((n : ℕ) → f n ≡ g n) → list_any f ns ≡ list_any g ns
same_list_any f g [] h = refl
same_list_any f g (n ∷ ns) h = let e = h n in let r = same_list_any f g ns h in cc

-- `and` over all members
pub over_and : (sizes : List ℕ) (test : List ℕ → Bool) (vars : List ℕ) → over ◌&&◌ true sizes test vars ≡ for_all sizes test vars
over_and [] test vars = refl
over_and (n ∷ sizes) test vars =
    fold_and (λ m. over ◌&&◌ true sizes test (vars ++ m ∷ [])) (range_with_len 0 n) true
    ∙ same_list_all _ _ (range_with_len 0 n) (λ m. over_and sizes test (vars ++ m ∷ []))

-- `or` over all members
pub over_or : (sizes : List ℕ) (test : List ℕ → Bool) (vars : List ℕ) → over ◌||◌ false sizes test vars ≡ for_some sizes test vars
over_or [] test vars = refl
over_or (n ∷ sizes) test vars =
    fold_or (λ m. over ◌||◌ false sizes test (vars ++ m ∷ [])) (range_with_len 0 n) false
    ∙ same_list_any _ _ (range_with_len 0 n) (λ m. over_or sizes test (vars ++ m ∷ []))

-- equal numbers are those that are at most each other
pub int_same_holds : (a b : ℤ) → IsTrue (int_same a b) ↔ (a ≡ b)
int_same_holds a b =
    (λ h. let low : a ≤ℤ b = grind (arith, ints) in let high : b ≤ℤ a = grind (arith, ints) in omega (arith, ints), λ e. grind (arith, ints))

differs : (a b : ℤ) → IsTrue (not (int_same a b)) ↔ (a ≢ b)
differs a b = (λ h e. grind (arith, ints), λ e. grind (arith, ints))

module _ (w : World) (schedule : List ℤ) where
  -- a comparison holds exactly where it is true
  pub compared_holds : (c : Comparison) (a b : ℤ) → IsTrue (comparison_truth (size_of w) (on_schedule w schedule) c a b) ↔ Holds c a b
  compared_holds Le a b = (λ h. grind (arith, ints), λ h. grind (arith, ints))
  compared_holds Lt a b = (λ h. grind (arith, ints), λ h. grind (arith, ints))
  compared_holds Ge a b = (λ h. grind (arith, ints), λ h. grind (arith, ints))
  compared_holds Gt a b = (λ h. grind (arith, ints), λ h. grind (arith, ints))
  compared_holds Eq a b = int_same_holds a b
  compared_holds Ne a b = differs a b
  compared_holds Same a b = int_same_holds a b
  compared_holds Other a b = differs a b

module _ (w : World) (schedule : List ℤ) (vars : List ℕ) where
  abbrev values : List Term → List ℤ
  values parts = values_on w schedule parts vars

  pub value_on-Number : (n : ℤ) → value_on w schedule (term.Number n) vars ≡ n
  value_on-Number n = value-Number (size_of w) (on_schedule w schedule) vars n

  pub value_on-Var : (k : ℕ) → value_on w schedule (term.Var k) vars ≡ pos (slice_index vars k)
  value_on-Var k = value-Var (size_of w) (on_schedule w schedule) vars k

  pub value_on-Given : (f : ℕ) (args : List Term) → value_on w schedule (term.Given f args) vars ≡ lookup (table_of w f) (entry w f (values args)) (pos 0)
  value_on-Given f args = value-Given (size_of w) (on_schedule w schedule) vars f args

  pub value_on-Choice : (x : ℕ) (args : List Term) → value_on w schedule (term.Choice x args) vars ≡ lookup schedule (cell w x (values args)) (pos 0)
  value_on-Choice x args = value-Choice (size_of w) (on_schedule w schedule) vars x args

  pub value_on-Add : (parts : List Term) → value_on w schedule (term.Add parts) vars ≡ total (values parts)
  value_on-Add parts = value-Add (size_of w) (on_schedule w schedule) vars parts

  pub value_on-Sub : (parts : List Term) → value_on w schedule (term.Sub parts) vars ≡ of_two ◌-ℤ◌ (pos 0) (values parts)
  value_on-Sub parts = value-Sub (size_of w) (on_schedule w schedule) vars parts

  pub value_on-Mul : (parts : List Term) → value_on w schedule (term.Mul parts) vars ≡ of_two ◌*ℤ◌ (pos 0) (values parts)
  value_on-Mul parts = value-Mul (size_of w) (on_schedule w schedule) vars parts

  pub value_on-Min : (parts : List Term) → value_on w schedule (term.Min parts) vars ≡ of_two int_min (pos 0) (values parts)
  value_on-Min parts = value-Min (size_of w) (on_schedule w schedule) vars parts

  pub value_on-Max : (parts : List Term) → value_on w schedule (term.Max parts) vars ≡ of_two int_max (pos 0) (values parts)
  value_on-Max parts = value-Max (size_of w) (on_schedule w schedule) vars parts

  pub value_on-Sum : (i : ℕ) (p : Formula) (a : Term) → value_on w schedule (term.Sum i p a) vars
      ≡ total (map (λ m. if truth_on w schedule p (vars ++ m ∷ []) then value_on w schedule a (vars ++ m ∷ []) else pos 0) (range_with_len 0 (size_of w i)))
  value_on-Sum i p a = value-Sum (size_of w) (on_schedule w schedule) vars i p a

  pub truth_on-Compare : (c : Comparison) (a b : Term) → truth_on w schedule (formula.Compare c a b) vars ≡ comparison_truth (size_of w) (on_schedule w schedule) c (value_on w schedule a vars) (value_on w schedule b vars)
  truth_on-Compare c a b = truth-Compare (size_of w) (on_schedule w schedule) vars c a b

  pub truth_on-And : (parts : List Formula) → truth_on w schedule (formula.And parts) vars ≡ list_all (λ p. truth_on w schedule p vars) parts
  truth_on-And parts =
      truth-And (size_of w) (on_schedule w schedule) vars parts ∙ fold_and (λ p. truth_on w schedule p vars) parts true

  pub truth_on-Or : (parts : List Formula) → truth_on w schedule (formula.Or parts) vars ≡ list_any (λ p. truth_on w schedule p vars) parts
  truth_on-Or parts =
      truth-Or (size_of w) (on_schedule w schedule) vars parts ∙ fold_or (λ p. truth_on w schedule p vars) parts false

  pub truth_on-Not : (p : Formula) → truth_on w schedule (formula.Not p) vars ≡ not (truth_on w schedule p vars)
  truth_on-Not p = truth-Not (size_of w) (on_schedule w schedule) vars p

  pub truth_on-Implies : (p q : Formula) → truth_on w schedule (formula.Implies p q) vars ≡ (not (truth_on w schedule p vars) || truth_on w schedule q vars)
  truth_on-Implies p q = truth-Implies (size_of w) (on_schedule w schedule) vars p q

  pub truth_on-Forall : (indexes : List ℕ) (p : Formula) → truth_on w schedule (formula.Forall indexes p) vars ≡ for_all (map (size_of w) indexes) (truth_on w schedule p) vars
  truth_on-Forall indexes p =
      truth-Forall (size_of w) (on_schedule w schedule) vars indexes p ∙ over_and (map (size_of w) indexes) (truth_on w schedule p) vars

  pub truth_on-Exists : (indexes : List ℕ) (p : Formula) → truth_on w schedule (formula.Exists indexes p) vars ≡ for_some (map (size_of w) indexes) (truth_on w schedule p) vars
  truth_on-Exists indexes p =
      truth-Exists (size_of w) (on_schedule w schedule) vars indexes p ∙ over_or (map (size_of w) indexes) (truth_on w schedule p) vars

  pub terms_mean : TermsMean w schedule vars
  terms_mean = record {
    number = value_on-Number;
    variable = value_on-Var;
    given = value_on-Given;
    choice = value_on-Choice;
    add = value_on-Add;
    sub = λ a b. value_on-Sub (a ∷ b ∷ []);
    mul = λ a b. value_on-Mul (a ∷ b ∷ []);
    min = λ a b. value_on-Min (a ∷ b ∷ []);
    max = λ a b. value_on-Max (a ∷ b ∷ []);
    sum = value_on-Sum;
  }

  pub formulas_mean : FormulasMean w schedule vars
  formulas_mean = record {
    compare = λ c a b. rw (truth_on-Compare c a b) (compared_holds w schedule c (value_on w schedule a vars) (value_on w schedule b vars));
    conjunction = truth_on-And;
    disjunction = truth_on-Or;
    negation = truth_on-Not;
    implication = truth_on-Implies;
    universal = truth_on-Forall;
    existential = truth_on-Exists;
  }

pub ruleset on_schedules = (value_on-Number, value_on-Var, value_on-Given, value_on-Choice, value_on-Add, value_on-Sub, value_on-Mul, value_on-Min, value_on-Max, value_on-Sum, truth_on-Compare, truth_on-And, truth_on-Or, truth_on-Not, truth_on-Implies, truth_on-Forall, truth_on-Exists)
