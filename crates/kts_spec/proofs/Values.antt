-- What each variant of term and formula means in any domain, as one equation.
use Rattle.std.proofs.Common.{◌≡◌, sym, ◌∙◌, ap, ℕ, List, [], ◌∷◌, ◌++◌, map, ℤ, pos, fold, slice_index}
use Rattle.std.specs.List.{range_with_len}
use Rattle.std.proofs.lemmas.Simd.{map-map}
use Rattle.kts_spec.specs.declared.tree.Comparison.{Comparison}
use Rattle.kts_spec.specs.declared.tree.Term.{Term}
use Rattle.kts_spec.specs.declared.tree.Term.TheVariants as term
use Rattle.kts_spec.specs.declared.tree.Formula.{Formula}
use Rattle.kts_spec.specs.declared.tree.Formula.TheVariants as formula
use Rattle.kts_spec.specs.declared.tree.Formula.TheOpen as one
use Rattle.kts_spec.specs.Domain.{Domain, value, truth, comparison_truth, of_two, over}
use Rattle.kts_spec.proofs.Rolls.{value-roll, truth-roll}

module _ {T B : Type 0} (size : ℕ → ℕ) (d : Domain T B) (vars : List ℕ) where
  abbrev values : List Term → List T
  values = map (λ t. value size d t vars)

  abbrev truths : List Formula → List B
  truths = map (λ p. truth size d p vars)

  pub value-Number : (n : ℤ) → value size d (term.Number n) vars ≡ d.number n
  value-Number n = ap (λ (t : Term). value size d t vars) (sym (term.rolls-Number n)) ∙ ap (λ (f : List ℕ → T). f vars) (value-roll size d (one.Number n))

  pub value-Var : (k : ℕ) → value size d (term.Var k) vars ≡ d.member (slice_index vars k)
  value-Var k = ap (λ (t : Term). value size d t vars) (sym (term.rolls-Var k)) ∙ ap (λ (f : List ℕ → T). f vars) (value-roll size d (one.Var k))

  pub value-Given : (f : ℕ) (args : List Term) → value size d (term.Given f args) vars ≡ d.given f (values args)
  value-Given f args = ap (λ (t : Term). value size d t vars) (sym (term.rolls-Given f args)) ∙ ap (λ (f : List ℕ → T). f vars) (value-roll size d (one.Given f args)) ∙ simp map-map

  pub value-Choice : (x : ℕ) (args : List Term) → value size d (term.Choice x args) vars ≡ d.choice x (values args)
  value-Choice x args = ap (λ (t : Term). value size d t vars) (sym (term.rolls-Choice x args)) ∙ ap (λ (f : List ℕ → T). f vars) (value-roll size d (one.Choice x args)) ∙ simp map-map

  pub value-Add : (parts : List Term) → value size d (term.Add parts) vars ≡ fold d.add (d.number (pos 0)) (values parts)
  value-Add parts = ap (λ (t : Term). value size d t vars) (sym (term.rolls-Add parts)) ∙ ap (λ (f : List ℕ → T). f vars) (value-roll size d (one.Add parts)) ∙ simp map-map

  pub value-Sub : (parts : List Term) → value size d (term.Sub parts) vars ≡ of_two d.sub (d.number (pos 0)) (values parts)
  value-Sub parts = ap (λ (t : Term). value size d t vars) (sym (term.rolls-Sub parts)) ∙ ap (λ (f : List ℕ → T). f vars) (value-roll size d (one.Sub parts)) ∙ simp map-map

  pub value-Mul : (parts : List Term) → value size d (term.Mul parts) vars ≡ of_two d.mul (d.number (pos 0)) (values parts)
  value-Mul parts = ap (λ (t : Term). value size d t vars) (sym (term.rolls-Mul parts)) ∙ ap (λ (f : List ℕ → T). f vars) (value-roll size d (one.Mul parts)) ∙ simp map-map

  pub value-Min : (parts : List Term) → value size d (term.Min parts) vars ≡ of_two d.least (d.number (pos 0)) (values parts)
  value-Min parts = ap (λ (t : Term). value size d t vars) (sym (term.rolls-Min parts)) ∙ ap (λ (f : List ℕ → T). f vars) (value-roll size d (one.Min parts)) ∙ simp map-map

  pub value-Max : (parts : List Term) → value size d (term.Max parts) vars ≡ of_two d.greatest (d.number (pos 0)) (values parts)
  value-Max parts = ap (λ (t : Term). value size d t vars) (sym (term.rolls-Max parts)) ∙ ap (λ (f : List ℕ → T). f vars) (value-roll size d (one.Max parts)) ∙ simp map-map

  pub value-Sum : (i : ℕ) (p : Formula) (a : Term) → value size d (term.Sum i p a) vars ≡ fold d.add (d.number (pos 0)) (map (λ m. d.gate (truth size d p (vars ++ m ∷ [])) (value size d a (vars ++ m ∷ []))) (range_with_len 0 (size i)))
  value-Sum i p a = ap (λ (t : Term). value size d t vars) (sym (term.rolls-Sum i p a)) ∙ ap (λ (f : List ℕ → T). f vars) (value-roll size d (one.Sum i p a))

  pub truth-Compare : (c : Comparison) (a b : Term) → truth size d (formula.Compare c a b) vars ≡ comparison_truth size d c (value size d a vars) (value size d b vars)
  truth-Compare c a b = ap (λ (p : Formula). truth size d p vars) (sym (formula.rolls-Compare c a b)) ∙ ap (λ (f : List ℕ → B). f vars) (truth-roll size d (one.Compare c a b))

  pub truth-And : (parts : List Formula) → truth size d (formula.And parts) vars ≡ fold d.both d.yes (truths parts)
  truth-And parts = ap (λ (p : Formula). truth size d p vars) (sym (formula.rolls-And parts)) ∙ ap (λ (f : List ℕ → B). f vars) (truth-roll size d (one.And parts)) ∙ simp map-map

  pub truth-Or : (parts : List Formula) → truth size d (formula.Or parts) vars ≡ fold d.either d.no (truths parts)
  truth-Or parts = ap (λ (p : Formula). truth size d p vars) (sym (formula.rolls-Or parts)) ∙ ap (λ (f : List ℕ → B). f vars) (truth-roll size d (one.Or parts)) ∙ simp map-map

  pub truth-Not : (p : Formula) → truth size d (formula.Not p) vars ≡ d.neg (truth size d p vars)
  truth-Not p = ap (λ (p : Formula). truth size d p vars) (sym (formula.rolls-Not p)) ∙ ap (λ (f : List ℕ → B). f vars) (truth-roll size d (one.Not p))

  pub truth-Implies : (p q : Formula) → truth size d (formula.Implies p q) vars ≡ d.either (d.neg (truth size d p vars)) (truth size d q vars)
  truth-Implies p q = ap (λ (p : Formula). truth size d p vars) (sym (formula.rolls-Implies p q)) ∙ ap (λ (f : List ℕ → B). f vars) (truth-roll size d (one.Implies p q))

  pub truth-Forall : (indexes : List ℕ) (p : Formula) → truth size d (formula.Forall indexes p) vars ≡ over d.both d.yes (map size indexes) (truth size d p) vars
  truth-Forall indexes p = ap (λ (p : Formula). truth size d p vars) (sym (formula.rolls-Forall indexes p)) ∙ ap (λ (f : List ℕ → B). f vars) (truth-roll size d (one.Forall indexes p))

  pub truth-Exists : (indexes : List ℕ) (p : Formula) → truth size d (formula.Exists indexes p) vars ≡ over d.either d.no (map size indexes) (truth size d p) vars
  truth-Exists indexes p = ap (λ (p : Formula). truth size d p vars) (sym (formula.rolls-Exists indexes p)) ∙ ap (λ (f : List ℕ → B). f vars) (truth-roll size d (one.Exists indexes p))

pub ruleset meanings = (value-Number, value-Var, value-Given, value-Choice, value-Add, value-Sub, value-Mul, value-Min, value-Max, value-Sum, truth-Compare, truth-And, truth-Or, truth-Not, truth-Implies, truth-Forall, truth-Exists)
