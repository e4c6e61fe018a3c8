-- The accesses in each variant of term and formula, as one equation.
use Rattle.std.proofs.Common.{◌≡◌, refl, sym, ◌∙◌, ap, ℕ, List, [], ◌∷◌, ◌++◌, map, ℤ}
use Rattle.std.specs.Prelude.{flat_map}
use Rattle.kts_spec.specs.declared.tree.Comparison.{Comparison}
use Rattle.kts_spec.specs.declared.tree.Term.{Term}
use Rattle.kts_spec.specs.declared.tree.Term.TheVariants as term
use Rattle.kts_spec.specs.declared.tree.Formula.{Formula}
use Rattle.kts_spec.specs.declared.tree.Formula.TheVariants as formula
use Rattle.kts_spec.specs.declared.tree.Formula.TheOpen as one
use Rattle.kts_spec.specs.Reads.{Access, all_reads, reads_of, reads_in}
use Rattle.kts_spec.proofs.Rolls.{reads_of-roll, reads_in-roll}

terms_reads : (ts : List Term) → all_reads (map (λ (t : Term). (t, reads_of t)) ts) ≡ flat_map reads_of ts
terms_reads [] = refl
terms_reads (t ∷ ts) = ap (λ rest. reads_of t ++ rest) (terms_reads ts)

formulas_reads : (ps : List Formula) → all_reads (map (λ (p : Formula). (p, reads_in p)) ps) ≡ flat_map reads_in ps
formulas_reads [] = refl
formulas_reads (p ∷ ps) = ap (λ rest. reads_in p ++ rest) (formulas_reads ps)

firsts : (ts : List Term) → map (λ (p : Term × List Access). p.0) (map (λ (t : Term). (t, reads_of t)) ts) ≡ ts
firsts [] = refl
firsts (t ∷ ts) = cc (firsts ts)

pub reads_of-Number : (n : ℤ) → reads_of (term.Number n) ≡ []
reads_of-Number n = ap reads_of (sym (term.rolls-Number n)) ∙ reads_of-roll (one.Number n)

pub reads_of-Var : (k : ℕ) → reads_of (term.Var k) ≡ []
reads_of-Var k = ap reads_of (sym (term.rolls-Var k)) ∙ reads_of-roll (one.Var k)

pub reads_of-Given : (f : ℕ) (args : List Term) → reads_of (term.Given f args) ≡ flat_map reads_of args
reads_of-Given f args = ap reads_of (sym (term.rolls-Given f args)) ∙ reads_of-roll (one.Given f args) ∙ terms_reads args

pub reads_of-Choice : (x : ℕ) (args : List Term) → reads_of (term.Choice x args) ≡ (x, args) ∷ flat_map reads_of args
reads_of-Choice x args = ap reads_of (sym (term.rolls-Choice x args)) ∙ reads_of-roll (one.Choice x args) ∙ ap (λ ts. (x, ts) ∷ all_reads (map (λ (t : Term). (t, reads_of t)) args)) (firsts args) ∙ ap (λ rest. (x, args) ∷ rest) (terms_reads args)

pub reads_of-Add : (parts : List Term) → reads_of (term.Add parts) ≡ flat_map reads_of parts
reads_of-Add parts = ap reads_of (sym (term.rolls-Add parts)) ∙ reads_of-roll (one.Add parts) ∙ terms_reads parts

pub reads_of-Sub : (parts : List Term) → reads_of (term.Sub parts) ≡ flat_map reads_of parts
reads_of-Sub parts = ap reads_of (sym (term.rolls-Sub parts)) ∙ reads_of-roll (one.Sub parts) ∙ terms_reads parts

pub reads_of-Mul : (parts : List Term) → reads_of (term.Mul parts) ≡ flat_map reads_of parts
reads_of-Mul parts = ap reads_of (sym (term.rolls-Mul parts)) ∙ reads_of-roll (one.Mul parts) ∙ terms_reads parts

pub reads_of-Min : (parts : List Term) → reads_of (term.Min parts) ≡ flat_map reads_of parts
reads_of-Min parts = ap reads_of (sym (term.rolls-Min parts)) ∙ reads_of-roll (one.Min parts) ∙ terms_reads parts

pub reads_of-Max : (parts : List Term) → reads_of (term.Max parts) ≡ flat_map reads_of parts
reads_of-Max parts = ap reads_of (sym (term.rolls-Max parts)) ∙ reads_of-roll (one.Max parts) ∙ terms_reads parts

pub reads_of-Sum : (i : ℕ) (p : Formula) (a : Term) → reads_of (term.Sum i p a) ≡ reads_in p ++ reads_of a
reads_of-Sum i p a = ap reads_of (sym (term.rolls-Sum i p a)) ∙ reads_of-roll (one.Sum i p a)

pub reads_in-Compare : (c : Comparison) (a b : Term) → reads_in (formula.Compare c a b) ≡ reads_of a ++ reads_of b
reads_in-Compare c a b = ap reads_in (sym (formula.rolls-Compare c a b)) ∙ reads_in-roll (one.Compare c a b)

pub reads_in-And : (parts : List Formula) → reads_in (formula.And parts) ≡ flat_map reads_in parts
reads_in-And parts = ap reads_in (sym (formula.rolls-And parts)) ∙ reads_in-roll (one.And parts) ∙ formulas_reads parts

pub reads_in-Or : (parts : List Formula) → reads_in (formula.Or parts) ≡ flat_map reads_in parts
reads_in-Or parts = ap reads_in (sym (formula.rolls-Or parts)) ∙ reads_in-roll (one.Or parts) ∙ formulas_reads parts

pub reads_in-Not : (p : Formula) → reads_in (formula.Not p) ≡ reads_in p
reads_in-Not p = ap reads_in (sym (formula.rolls-Not p)) ∙ reads_in-roll (one.Not p)

pub reads_in-Implies : (p q : Formula) → reads_in (formula.Implies p q) ≡ reads_in p ++ reads_in q
reads_in-Implies p q = ap reads_in (sym (formula.rolls-Implies p q)) ∙ reads_in-roll (one.Implies p q)

pub reads_in-Forall : (indexes : List ℕ) (p : Formula) → reads_in (formula.Forall indexes p) ≡ reads_in p
reads_in-Forall indexes p = ap reads_in (sym (formula.rolls-Forall indexes p)) ∙ reads_in-roll (one.Forall indexes p)

pub reads_in-Exists : (indexes : List ℕ) (p : Formula) → reads_in (formula.Exists indexes p) ≡ reads_in p
reads_in-Exists indexes p = ap reads_in (sym (formula.rolls-Exists indexes p)) ∙ reads_in-roll (one.Exists indexes p)

pub ruleset accesses = (reads_of-Number, reads_of-Var, reads_of-Given, reads_of-Choice, reads_of-Add, reads_of-Sub, reads_of-Mul, reads_of-Min, reads_of-Max, reads_of-Sum, reads_in-Compare, reads_in-And, reads_in-Or, reads_in-Not, reads_in-Implies, reads_in-Forall, reads_in-Exists)
