-- What each variant of term and formula gives to heads, as one equation.
use Rattle.std.proofs.Common.{◌≡◌, refl, sym, ap, ◌∙◌, ℕ, ℤ, List, [], ◌∷◌, map, Bool, true, false, ◌&&◌, Option, Some, None, if◌then◌else◌}
use Rattle.std.specs.List.{list_all}
use Rattle.kts_spec.specs.declared.tree.Comparison.{Comparison}
use Rattle.kts_spec.specs.declared.tree.Term.{Term}
use Rattle.kts_spec.specs.declared.tree.Term.TheVariants as term
use Rattle.kts_spec.specs.declared.tree.Formula.{Formula}
use Rattle.kts_spec.specs.declared.tree.Formula.TheVariants as formula
use Rattle.kts_spec.specs.declared.tree.Formula.TheOpen as one
use Rattle.kts_spec.specs.Addends.{negation}
use Rattle.kts_spec.specs.Reads.{Access}
use Rattle.kts_plan.specs.BareAccesses.{reads_nothing, bare}
use Rattle.kts_plan.specs.Assertions.{Assertion, Opaque, comparison_assertion, assertion_of}
use Rattle.kts_plan.proofs.LiteralRolls.{bare-roll, args_back, assertion_of-roll}

pub bare-Number : (n : ℤ) → bare (term.Number n) ≡ None
bare-Number n = ap bare (sym (term.rolls-Number n)) ∙ bare-roll (one.Number n)

pub bare-Var : (k : ℕ) → bare (term.Var k) ≡ None
bare-Var k = ap bare (sym (term.rolls-Var k)) ∙ bare-roll (one.Var k)

pub bare-Given : (f : ℕ) (args : List Term) → bare (term.Given f args) ≡ None
bare-Given f args = ap bare (sym (term.rolls-Given f args)) ∙ bare-roll (one.Given f args)

pub bare-Add : (parts : List Term) → bare (term.Add parts) ≡ None
bare-Add parts = ap bare (sym (term.rolls-Add parts)) ∙ bare-roll (one.Add parts)

pub bare-Sub : (parts : List Term) → bare (term.Sub parts) ≡ None
bare-Sub parts = ap bare (sym (term.rolls-Sub parts)) ∙ bare-roll (one.Sub parts)

pub bare-Mul : (parts : List Term) → bare (term.Mul parts) ≡ None
bare-Mul parts = ap bare (sym (term.rolls-Mul parts)) ∙ bare-roll (one.Mul parts)

pub bare-Min : (parts : List Term) → bare (term.Min parts) ≡ None
bare-Min parts = ap bare (sym (term.rolls-Min parts)) ∙ bare-roll (one.Min parts)

pub bare-Max : (parts : List Term) → bare (term.Max parts) ≡ None
bare-Max parts = ap bare (sym (term.rolls-Max parts)) ∙ bare-roll (one.Max parts)

pub bare-Sum : (i : ℕ) (p : Formula) (a : Term) → bare (term.Sum i p a) ≡ None
bare-Sum i p a = ap bare (sym (term.rolls-Sum i p a)) ∙ bare-roll (one.Sum i p a)

all_bare : (ts : List Term) → list_all (λ (t : Term × Option Access). reads_nothing t.0) (map (λ (t : Term). (t, bare t)) ts) ≡ list_all reads_nothing ts
all_bare [] = refl
all_bare (t ∷ ts) = ap (λ b. reads_nothing t && b) (all_bare ts)

pub bare-Choice : (x : ℕ) (args : List Term) → bare (term.Choice x args) ≡ (if list_all reads_nothing args then Some (x, args) else None)
bare-Choice x args =
    ap bare (sym (term.rolls-Choice x args)) ∙ bare-roll (one.Choice x args)
    ∙ ap (λ ts. if list_all (λ (t : Term × Option Access). reads_nothing t.0) (map (λ (t : Term). (t, bare t)) args) then Some (x, ts) else None) (args_back args)
    ∙ ap (λ b. if b then Some (x, args) else None) (all_bare args)

pub assertion-written : (c : Comparison) (a b : Term) → assertion_of (formula.Compare c a b) false ≡ comparison_assertion c a b
assertion-written c a b = ap (λ p. assertion_of p false) (sym (formula.rolls-Compare c a b)) ∙ ap (λ (f : Bool → Assertion). f false) (assertion_of-roll (one.Compare c a b))

pub assertion-negated : (c : Comparison) (a b : Term) → assertion_of (formula.Compare c a b) true ≡ comparison_assertion (negation c) a b
assertion-negated c a b = ap (λ p. assertion_of p true) (sym (formula.rolls-Compare c a b)) ∙ ap (λ (f : Bool → Assertion). f true) (assertion_of-roll (one.Compare c a b))

pub assertion-And : (ps : List Formula) (negative : Bool) → assertion_of (formula.And ps) negative ≡ Opaque
assertion-And ps negative = ap (λ p. assertion_of p negative) (sym (formula.rolls-And ps)) ∙ ap (λ (f : Bool → Assertion). f negative) (assertion_of-roll (one.And ps))

pub assertion-Or : (ps : List Formula) (negative : Bool) → assertion_of (formula.Or ps) negative ≡ Opaque
assertion-Or ps negative = ap (λ p. assertion_of p negative) (sym (formula.rolls-Or ps)) ∙ ap (λ (f : Bool → Assertion). f negative) (assertion_of-roll (one.Or ps))

pub assertion-Implies : (p q : Formula) (negative : Bool) → assertion_of (formula.Implies p q) negative ≡ Opaque
assertion-Implies p q negative = ap (λ z. assertion_of z negative) (sym (formula.rolls-Implies p q)) ∙ ap (λ (f : Bool → Assertion). f negative) (assertion_of-roll (one.Implies p q))

pub assertion-Forall : (indexes : List ℕ) (p : Formula) (negative : Bool) → assertion_of (formula.Forall indexes p) negative ≡ Opaque
assertion-Forall indexes p negative = ap (λ z. assertion_of z negative) (sym (formula.rolls-Forall indexes p)) ∙ ap (λ (f : Bool → Assertion). f negative) (assertion_of-roll (one.Forall indexes p))

pub assertion-Exists : (indexes : List ℕ) (p : Formula) (negative : Bool) → assertion_of (formula.Exists indexes p) negative ≡ Opaque
assertion-Exists indexes p negative = ap (λ z. assertion_of z negative) (sym (formula.rolls-Exists indexes p)) ∙ ap (λ (f : Bool → Assertion). f negative) (assertion_of-roll (one.Exists indexes p))

pub ruleset head_equations = (bare-Number, bare-Var, bare-Given, bare-Add, bare-Sub, bare-Mul, bare-Min, bare-Max, bare-Sum, bare-Choice, assertion-written, assertion-negated, assertion-And, assertion-Or, assertion-Implies, assertion-Forall, assertion-Exists)
