-- The code of each form, as one equation.
use Rattle.std.proofs.Common.{◌≡◌, ℕ, ℤ, pos, List, [], ◌∷◌, map, sym, ap, ◌∙◌}
use Rattle.kts_code.specs.declared.instructions.Instr.TheVariants as i
use Rattle.kts_spec.specs.declared.tree.Comparison.{Comparison}
use Rattle.kts_spec.specs.declared.tree.Term.{Term}
use Rattle.kts_spec.specs.declared.tree.Term.TheVariants as term
use Rattle.kts_spec.specs.declared.tree.Formula.{Formula}
use Rattle.kts_spec.specs.declared.tree.Formula.TheVariants as formula
use Rattle.kts_spec.specs.declared.tree.Formula.TheOpen as one
use Rattle.kts_emit.specs.Fragments.{Fragment, operation, chain, loop, begun, nested_loops}
use Rattle.kts_emit.specs.Codes.{negated, comparison_code, term_code, formula_code}
use Rattle.kts_emit.proofs.CodeLevels.{term_code-roll, formula_code-roll}

-- the same code at a place
at_place : (code body : Fragment) → code ≡ body → (place vars : ℕ) → code place vars ≡ body place vars
at_place code body e place vars = ap (λ (f : Fragment). f place vars) e

pub term_code-Number : (n : ℤ) (place vars : ℕ)
    → term_code (term.Number n) place vars ≡ (operation [] (i.Num n ∷ [])) place vars
term_code-Number n place vars =
    at_place _ _ (ap term_code (sym (term.rolls-Number n)) ∙ term_code-roll (one.Number n)) place vars

pub term_code-Var : (k : ℕ) (place vars : ℕ)
    → term_code (term.Var k) place vars ≡ (operation [] (i.Var k ∷ [])) place vars
term_code-Var k place vars =
    at_place _ _ (ap term_code (sym (term.rolls-Var k)) ∙ term_code-roll (one.Var k)) place vars

pub term_code-Given : (f : ℕ) (args : List Term) (place vars : ℕ)
    → term_code (term.Given f args) place vars ≡ (operation (map term_code args) (i.Given f ∷ [])) place vars
term_code-Given f args place vars =
    at_place _ _ (ap term_code (sym (term.rolls-Given f args)) ∙ term_code-roll (one.Given f args)) place vars

pub term_code-Choice : (x : ℕ) (args : List Term) (place vars : ℕ)
    → term_code (term.Choice x args) place vars ≡ (operation (map term_code args) (i.Choice x ∷ [])) place vars
term_code-Choice x args place vars =
    at_place _ _ (ap term_code (sym (term.rolls-Choice x args)) ∙ term_code-roll (one.Choice x args)) place vars

pub term_code-Add : (parts : List Term) (place vars : ℕ)
    → term_code (term.Add parts) place vars ≡ (chain i.Add (map term_code parts)) place vars
term_code-Add parts place vars =
    at_place _ _ (ap term_code (sym (term.rolls-Add parts)) ∙ term_code-roll (one.Add parts)) place vars

pub term_code-Sub : (parts : List Term) (place vars : ℕ)
    → term_code (term.Sub parts) place vars ≡ (operation (map term_code parts) (i.Sub ∷ [])) place vars
term_code-Sub parts place vars =
    at_place _ _ (ap term_code (sym (term.rolls-Sub parts)) ∙ term_code-roll (one.Sub parts)) place vars

pub term_code-Mul : (parts : List Term) (place vars : ℕ)
    → term_code (term.Mul parts) place vars ≡ (operation (map term_code parts) (i.Mul ∷ [])) place vars
term_code-Mul parts place vars =
    at_place _ _ (ap term_code (sym (term.rolls-Mul parts)) ∙ term_code-roll (one.Mul parts)) place vars

pub term_code-Min : (parts : List Term) (place vars : ℕ)
    → term_code (term.Min parts) place vars ≡ (operation (map term_code parts) (i.Min ∷ [])) place vars
term_code-Min parts place vars =
    at_place _ _ (ap term_code (sym (term.rolls-Min parts)) ∙ term_code-roll (one.Min parts)) place vars

pub term_code-Max : (parts : List Term) (place vars : ℕ)
    → term_code (term.Max parts) place vars ≡ (operation (map term_code parts) (i.Max ∷ [])) place vars
term_code-Max parts place vars =
    at_place _ _ (ap term_code (sym (term.rolls-Max parts)) ∙ term_code-roll (one.Max parts)) place vars

pub term_code-Sum : (index : ℕ) (p : Formula) (a : Term) (place vars : ℕ)
    → term_code (term.Sum index p a) place vars
    ≡ (begun (i.Num (pos 0)) (loop index (operation (formula_code p ∷ term_code a ∷ []) (i.Gate ∷ (i.Add ∷ []))))) place vars
term_code-Sum index p a place vars =
    at_place _ _ (ap term_code (sym (term.rolls-Sum index p a)) ∙ term_code-roll (one.Sum index p a)) place vars

pub formula_code-Compare : (c : Comparison) (a b : Term) (place vars : ℕ)
    → formula_code (formula.Compare c a b) place vars ≡ (comparison_code c (term_code a) (term_code b)) place vars
formula_code-Compare c a b place vars =
    at_place _ _ (ap formula_code (sym (formula.rolls-Compare c a b)) ∙ formula_code-roll (one.Compare c a b)) place vars

pub formula_code-And : (parts : List Formula) (place vars : ℕ)
    → formula_code (formula.And parts) place vars ≡ (chain i.And (map formula_code parts)) place vars
formula_code-And parts place vars =
    at_place _ _ (ap formula_code (sym (formula.rolls-And parts)) ∙ formula_code-roll (one.And parts)) place vars

pub formula_code-Or : (parts : List Formula) (place vars : ℕ)
    → formula_code (formula.Or parts) place vars ≡ (chain i.Or (map formula_code parts)) place vars
formula_code-Or parts place vars =
    at_place _ _ (ap formula_code (sym (formula.rolls-Or parts)) ∙ formula_code-roll (one.Or parts)) place vars

pub formula_code-Not : (p : Formula) (place vars : ℕ)
    → formula_code (formula.Not p) place vars ≡ (negated (formula_code p)) place vars
formula_code-Not p place vars =
    at_place _ _ (ap formula_code (sym (formula.rolls-Not p)) ∙ formula_code-roll (one.Not p)) place vars

pub formula_code-Implies : (p q : Formula) (place vars : ℕ)
    → formula_code (formula.Implies p q) place vars ≡ (operation (negated (formula_code p) ∷ formula_code q ∷ []) (i.Or ∷ [])) place vars
formula_code-Implies p q place vars =
    at_place _ _ (ap formula_code (sym (formula.rolls-Implies p q)) ∙ formula_code-roll (one.Implies p q)) place vars

pub formula_code-Forall : (indexes : List ℕ) (p : Formula) (place vars : ℕ)
    → formula_code (formula.Forall indexes p) place vars ≡ (nested_loops i.True i.And indexes (formula_code p)) place vars
formula_code-Forall indexes p place vars =
    at_place _ _ (ap formula_code (sym (formula.rolls-Forall indexes p)) ∙ formula_code-roll (one.Forall indexes p)) place vars

pub formula_code-Exists : (indexes : List ℕ) (p : Formula) (place vars : ℕ)
    → formula_code (formula.Exists indexes p) place vars ≡ (nested_loops i.False i.Or indexes (formula_code p)) place vars
formula_code-Exists indexes p place vars =
    at_place _ _ (ap formula_code (sym (formula.rolls-Exists indexes p)) ∙ formula_code-roll (one.Exists indexes p)) place vars

-- the code of each form
pub ruleset code_forms = (
  term_code-Number,
  term_code-Var,
  term_code-Given,
  term_code-Choice,
  term_code-Add,
  term_code-Sub,
  term_code-Mul,
  term_code-Min,
  term_code-Max,
  term_code-Sum,
  formula_code-Compare,
  formula_code-And,
  formula_code-Or,
  formula_code-Not,
  formula_code-Implies,
  formula_code-Forall,
  formula_code-Exists,
)
