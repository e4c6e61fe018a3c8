-- The size of each variant of term and formula, and which prefixes are short, as one equation.
use Rattle.std.proofs.Common.{◌≡◌, sym, ◌∙◌, ap, ℕ, ◌+◌, List, length, map, ℤ, Bool, true, ◌&&◌, nat_le}
use Rattle.std.specs.List.{list_all}
use Rattle.std.proofs.lemmas.List.Folds.{list_all-map}
use Rattle.kts_spec.specs.declared.tree.Comparison.{Comparison}
use Rattle.kts_spec.specs.declared.tree.Term.{Term}
use Rattle.kts_spec.specs.declared.tree.Term.TheVariants as term
use Rattle.kts_spec.specs.declared.tree.Formula.{Formula}
use Rattle.kts_spec.specs.declared.tree.Formula.TheVariants as formula
use Rattle.kts_spec.specs.declared.tree.Formula.TheOpen as one
use Rattle.kts_base.specs.Limits.{most_prefix}
use Rattle.kts_spec.specs.Sizes.{no_trees, beside, all_beside, tree_over, sum_tree_over, comparison_over, size_of_term, size_of_formula, has_short_prefixes}
use Rattle.kts_spec.proofs.Rolls.{size_of_term-roll, size_of_formula-roll, has_short_prefixes-roll}

pub size_of_term-Number : (n : ℤ) → size_of_term (term.Number n) ≡ tree_over no_trees
size_of_term-Number n = ap size_of_term (sym (term.rolls-Number n)) ∙ size_of_term-roll (one.Number n)

pub size_of_term-Var : (k : ℕ) → size_of_term (term.Var k) ≡ tree_over no_trees
size_of_term-Var k = ap size_of_term (sym (term.rolls-Var k)) ∙ size_of_term-roll (one.Var k)

pub size_of_term-Given : (f : ℕ) (args : List Term) → size_of_term (term.Given f args) ≡ tree_over (all_beside (map size_of_term args))
size_of_term-Given f args = ap size_of_term (sym (term.rolls-Given f args)) ∙ size_of_term-roll (one.Given f args)

pub size_of_term-Choice : (x : ℕ) (args : List Term) → size_of_term (term.Choice x args) ≡ tree_over (all_beside (map size_of_term args))
size_of_term-Choice x args = ap size_of_term (sym (term.rolls-Choice x args)) ∙ size_of_term-roll (one.Choice x args)

pub size_of_term-Add : (parts : List Term) → size_of_term (term.Add parts) ≡ sum_tree_over (all_beside (map size_of_term parts))
size_of_term-Add parts = ap size_of_term (sym (term.rolls-Add parts)) ∙ size_of_term-roll (one.Add parts)

pub size_of_term-Sub : (parts : List Term) → size_of_term (term.Sub parts) ≡ sum_tree_over (all_beside (map size_of_term parts))
size_of_term-Sub parts = ap size_of_term (sym (term.rolls-Sub parts)) ∙ size_of_term-roll (one.Sub parts)

pub size_of_term-Mul : (parts : List Term) → size_of_term (term.Mul parts) ≡ tree_over (all_beside (map size_of_term parts))
size_of_term-Mul parts = ap size_of_term (sym (term.rolls-Mul parts)) ∙ size_of_term-roll (one.Mul parts)

pub size_of_term-Min : (parts : List Term) → size_of_term (term.Min parts) ≡ tree_over (all_beside (map size_of_term parts))
size_of_term-Min parts = ap size_of_term (sym (term.rolls-Min parts)) ∙ size_of_term-roll (one.Min parts)

pub size_of_term-Max : (parts : List Term) → size_of_term (term.Max parts) ≡ tree_over (all_beside (map size_of_term parts))
size_of_term-Max parts = ap size_of_term (sym (term.rolls-Max parts)) ∙ size_of_term-roll (one.Max parts)

pub size_of_term-Sum : (i : ℕ) (p : Formula) (a : Term) → size_of_term (term.Sum i p a) ≡ tree_over (beside (size_of_formula p) (size_of_term a))
size_of_term-Sum i p a = ap size_of_term (sym (term.rolls-Sum i p a)) ∙ size_of_term-roll (one.Sum i p a)

pub size_of_formula-Compare : (c : Comparison) (a b : Term) → size_of_formula (formula.Compare c a b) ≡ comparison_over c (beside (size_of_term a) (size_of_term b))
size_of_formula-Compare c a b = ap size_of_formula (sym (formula.rolls-Compare c a b)) ∙ size_of_formula-roll (one.Compare c a b)

pub size_of_formula-And : (parts : List Formula) → size_of_formula (formula.And parts) ≡ tree_over (all_beside (map size_of_formula parts))
size_of_formula-And parts = ap size_of_formula (sym (formula.rolls-And parts)) ∙ size_of_formula-roll (one.And parts)

pub size_of_formula-Or : (parts : List Formula) → size_of_formula (formula.Or parts) ≡ tree_over (all_beside (map size_of_formula parts))
size_of_formula-Or parts = ap size_of_formula (sym (formula.rolls-Or parts)) ∙ size_of_formula-roll (one.Or parts)

pub size_of_formula-Not : (p : Formula) → size_of_formula (formula.Not p) ≡ tree_over (size_of_formula p)
size_of_formula-Not p = ap size_of_formula (sym (formula.rolls-Not p)) ∙ size_of_formula-roll (one.Not p)

pub size_of_formula-Implies : (p q : Formula) → size_of_formula (formula.Implies p q) ≡ tree_over (beside (size_of_formula p) (size_of_formula q))
size_of_formula-Implies p q = ap size_of_formula (sym (formula.rolls-Implies p q)) ∙ size_of_formula-roll (one.Implies p q)

pub size_of_formula-Forall : (indexes : List ℕ) (p : Formula) → size_of_formula (formula.Forall indexes p) ≡ tree_over (size_of_formula p)
size_of_formula-Forall indexes p = ap size_of_formula (sym (formula.rolls-Forall indexes p)) ∙ size_of_formula-roll (one.Forall indexes p)

pub size_of_formula-Exists : (indexes : List ℕ) (p : Formula) → size_of_formula (formula.Exists indexes p) ≡ tree_over (size_of_formula p)
size_of_formula-Exists indexes p = ap size_of_formula (sym (formula.rolls-Exists indexes p)) ∙ size_of_formula-roll (one.Exists indexes p)

pub has_short_prefixes-Compare : (c : Comparison) (a b : Term) (before : ℕ) → has_short_prefixes (formula.Compare c a b) before ≡ true
has_short_prefixes-Compare c a b before = ap (λ (p : Formula). has_short_prefixes p before) (sym (formula.rolls-Compare c a b)) ∙ ap (λ (f : ℕ → Bool). f before) (has_short_prefixes-roll (one.Compare c a b))

pub has_short_prefixes-And : (parts : List Formula) (before : ℕ) → has_short_prefixes (formula.And parts) before ≡ list_all (λ p. has_short_prefixes p before) parts
has_short_prefixes-And parts before = ap (λ (p : Formula). has_short_prefixes p before) (sym (formula.rolls-And parts)) ∙ ap (λ (f : ℕ → Bool). f before) (has_short_prefixes-roll (one.And parts)) ∙ simp list_all-map

pub has_short_prefixes-Or : (parts : List Formula) (before : ℕ) → has_short_prefixes (formula.Or parts) before ≡ true
has_short_prefixes-Or parts before = ap (λ (p : Formula). has_short_prefixes p before) (sym (formula.rolls-Or parts)) ∙ ap (λ (f : ℕ → Bool). f before) (has_short_prefixes-roll (one.Or parts))

pub has_short_prefixes-Not : (p : Formula) (before : ℕ) → has_short_prefixes (formula.Not p) before ≡ true
has_short_prefixes-Not p before = ap (λ (p : Formula). has_short_prefixes p before) (sym (formula.rolls-Not p)) ∙ ap (λ (f : ℕ → Bool). f before) (has_short_prefixes-roll (one.Not p))

pub has_short_prefixes-Implies : (p q : Formula) (before : ℕ) → has_short_prefixes (formula.Implies p q) before ≡ true
has_short_prefixes-Implies p q before = ap (λ (p : Formula). has_short_prefixes p before) (sym (formula.rolls-Implies p q)) ∙ ap (λ (f : ℕ → Bool). f before) (has_short_prefixes-roll (one.Implies p q))

pub has_short_prefixes-Forall : (indexes : List ℕ) (p : Formula) (before : ℕ) → has_short_prefixes (formula.Forall indexes p) before ≡ (nat_le (before + length indexes) most_prefix && has_short_prefixes p (before + length indexes))
has_short_prefixes-Forall indexes p before = ap (λ (p : Formula). has_short_prefixes p before) (sym (formula.rolls-Forall indexes p)) ∙ ap (λ (f : ℕ → Bool). f before) (has_short_prefixes-roll (one.Forall indexes p))

pub has_short_prefixes-Exists : (indexes : List ℕ) (p : Formula) (before : ℕ) → has_short_prefixes (formula.Exists indexes p) before ≡ true
has_short_prefixes-Exists indexes p before = ap (λ (p : Formula). has_short_prefixes p before) (sym (formula.rolls-Exists indexes p)) ∙ ap (λ (f : ℕ → Bool). f before) (has_short_prefixes-roll (one.Exists indexes p))

pub ruleset sizes = (size_of_term-Number, size_of_term-Var, size_of_term-Given, size_of_term-Choice, size_of_term-Add, size_of_term-Sub, size_of_term-Mul, size_of_term-Min, size_of_term-Max, size_of_term-Sum, size_of_formula-Compare, size_of_formula-And, size_of_formula-Or, size_of_formula-Not, size_of_formula-Implies, size_of_formula-Forall, size_of_formula-Exists, has_short_prefixes-Compare, has_short_prefixes-And, has_short_prefixes-Or, has_short_prefixes-Not, has_short_prefixes-Implies, has_short_prefixes-Forall, has_short_prefixes-Exists)
