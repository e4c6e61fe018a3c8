-- The length of the code of each form, as one equation.
use Rattle.std.proofs.Common.{◌≡◌, ℕ, ◌+◌, ◌*◌, ℤ, List, map, sym, ap, ◌∙◌}
use Rattle.kts_spec.specs.declared.tree.Comparison.{Comparison}
use Rattle.kts_spec.specs.declared.tree.Term.{Term}
use Rattle.kts_spec.specs.declared.tree.Term.TheVariants as term
use Rattle.kts_spec.specs.declared.tree.Formula.{Formula}
use Rattle.kts_spec.specs.declared.tree.Formula.TheVariants as formula
use Rattle.kts_spec.specs.declared.tree.Formula.TheOpen as one
use Rattle.kts_emit.specs.Weights.{once, sequence_weight, chain_weight, nested_weight, test_weight, length_of_term, length_of_formula}
use Rattle.kts_emit.proofs.CodeLevels.{weight_of_term-roll, weight_of_formula-roll}

pub length_of_term-Number : (n : ℤ) → length_of_term (term.Number n) ≡ 1
length_of_term-Number n = ap length_of_term (sym (term.rolls-Number n)) ∙ weight_of_term-roll once (one.Number n)

pub length_of_term-Var : (k : ℕ) → length_of_term (term.Var k) ≡ 1
length_of_term-Var k = ap length_of_term (sym (term.rolls-Var k)) ∙ weight_of_term-roll once (one.Var k)

pub length_of_term-Given : (f : ℕ) (args : List Term) → length_of_term (term.Given f args) ≡ sequence_weight (map length_of_term args) + 1
length_of_term-Given f args = ap length_of_term (sym (term.rolls-Given f args)) ∙ weight_of_term-roll once (one.Given f args)

pub length_of_term-Choice : (x : ℕ) (args : List Term) → length_of_term (term.Choice x args) ≡ sequence_weight (map length_of_term args) + 1
length_of_term-Choice x args = ap length_of_term (sym (term.rolls-Choice x args)) ∙ weight_of_term-roll once (one.Choice x args)

pub length_of_term-Add : (parts : List Term) → length_of_term (term.Add parts) ≡ chain_weight (map length_of_term parts)
length_of_term-Add parts = ap length_of_term (sym (term.rolls-Add parts)) ∙ weight_of_term-roll once (one.Add parts)

pub length_of_term-Sub : (parts : List Term) → length_of_term (term.Sub parts) ≡ sequence_weight (map length_of_term parts) + 1
length_of_term-Sub parts = ap length_of_term (sym (term.rolls-Sub parts)) ∙ weight_of_term-roll once (one.Sub parts)

pub length_of_term-Mul : (parts : List Term) → length_of_term (term.Mul parts) ≡ sequence_weight (map length_of_term parts) + 1
length_of_term-Mul parts = ap length_of_term (sym (term.rolls-Mul parts)) ∙ weight_of_term-roll once (one.Mul parts)

pub length_of_term-Min : (parts : List Term) → length_of_term (term.Min parts) ≡ sequence_weight (map length_of_term parts) + 1
length_of_term-Min parts = ap length_of_term (sym (term.rolls-Min parts)) ∙ weight_of_term-roll once (one.Min parts)

pub length_of_term-Max : (parts : List Term) → length_of_term (term.Max parts) ≡ sequence_weight (map length_of_term parts) + 1
length_of_term-Max parts = ap length_of_term (sym (term.rolls-Max parts)) ∙ weight_of_term-roll once (one.Max parts)

pub length_of_term-Sum : (index : ℕ) (p : Formula) (a : Term)
    → length_of_term (term.Sum index p a) ≡ 1 + (1 + 1 * (length_of_formula p + length_of_term a + 2 + 1))
length_of_term-Sum index p a = ap length_of_term (sym (term.rolls-Sum index p a)) ∙ weight_of_term-roll once (one.Sum index p a)

pub length_of_formula-Compare : (c : Comparison) (a b : Term)
    → length_of_formula (formula.Compare c a b) ≡ length_of_term a + length_of_term b + test_weight c
length_of_formula-Compare c a b = ap length_of_formula (sym (formula.rolls-Compare c a b)) ∙ weight_of_formula-roll once (one.Compare c a b)

pub length_of_formula-And : (parts : List Formula) → length_of_formula (formula.And parts) ≡ chain_weight (map length_of_formula parts)
length_of_formula-And parts = ap length_of_formula (sym (formula.rolls-And parts)) ∙ weight_of_formula-roll once (one.And parts)

pub length_of_formula-Or : (parts : List Formula) → length_of_formula (formula.Or parts) ≡ chain_weight (map length_of_formula parts)
length_of_formula-Or parts = ap length_of_formula (sym (formula.rolls-Or parts)) ∙ weight_of_formula-roll once (one.Or parts)

pub length_of_formula-Not : (p : Formula) → length_of_formula (formula.Not p) ≡ length_of_formula p + 1
length_of_formula-Not p = ap length_of_formula (sym (formula.rolls-Not p)) ∙ weight_of_formula-roll once (one.Not p)

pub length_of_formula-Implies : (p q : Formula) → length_of_formula (formula.Implies p q) ≡ length_of_formula p + 1 + length_of_formula q + 1
length_of_formula-Implies p q = ap length_of_formula (sym (formula.rolls-Implies p q)) ∙ weight_of_formula-roll once (one.Implies p q)

pub length_of_formula-Forall : (indexes : List ℕ) (p : Formula)
    → length_of_formula (formula.Forall indexes p) ≡ nested_weight once indexes (length_of_formula p)
length_of_formula-Forall indexes p =
    ap length_of_formula (sym (formula.rolls-Forall indexes p)) ∙ weight_of_formula-roll once (one.Forall indexes p)

pub length_of_formula-Exists : (indexes : List ℕ) (p : Formula)
    → length_of_formula (formula.Exists indexes p) ≡ nested_weight once indexes (length_of_formula p)
length_of_formula-Exists indexes p =
    ap length_of_formula (sym (formula.rolls-Exists indexes p)) ∙ weight_of_formula-roll once (one.Exists indexes p)

-- the length of each form
pub ruleset length_forms = (
  length_of_term-Number,
  length_of_term-Var,
  length_of_term-Given,
  length_of_term-Choice,
  length_of_term-Add,
  length_of_term-Sub,
  length_of_term-Mul,
  length_of_term-Min,
  length_of_term-Max,
  length_of_term-Sum,
  length_of_formula-Compare,
  length_of_formula-And,
  length_of_formula-Or,
  length_of_formula-Not,
  length_of_formula-Implies,
  length_of_formula-Forall,
  length_of_formula-Exists,
)
