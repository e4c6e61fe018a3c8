-- What a comparison says, and that no other formula says anything.
use Rattle.std.proofs.Common.{◌≡◌, sym, ap, ◌∙◌, subst, Bool, true, false}
use Rattle.kts_spec.specs.declared.tree.Comparison.{Comparison}
use Rattle.kts_spec.specs.declared.tree.Term.{Term}
use Rattle.kts_spec.specs.declared.tree.Formula.{Formula, roll-Formula}
use Rattle.kts_spec.specs.declared.tree.Formula.TheVariants as formula
use Rattle.kts_spec.specs.declared.tree.Formula.TheOpen as one
use Rattle.kts_spec.specs.declared.tree.Formula.TheFolds.{ind-Formula, map-Formula, para-roll-Formula}
use Rattle.kts_plan.specs.Assertions.{Assertion, Opaque, comparison_assertion, assertion_step, assertion_of}
use Rattle.kts_classify.specs.HeadPlaces.{signed_comparison}

pub assertion_of-roll : (x : one.Formula-F Formula Term) → assertion_of (roll-Formula x) ≡ assertion_step (map-Formula Formula Term (Formula × (Bool → Assertion)) (Term × Unit {0}) (λ p. (p, assertion_of p)) (λ t. (t, tt)) x)
unfolding assertion_of
assertion_of-roll x = para-roll-Formula (Bool → Assertion) (Unit {0}) assertion_step (λ _. tt) x

pub assertion_of-Compare : (c : Comparison) (a b : Term) (negative : Bool) → assertion_of (formula.Compare c a b) negative ≡ comparison_assertion (signed_comparison c negative) a b
assertion_of-Compare c a b true = ap (λ (p : Formula). assertion_of p true) (sym (formula.rolls-Compare c a b)) ∙ ap (λ (f : Bool → Assertion). f true) (assertion_of-roll (one.Compare c a b))
assertion_of-Compare c a b false = ap (λ (p : Formula). assertion_of p false) (sym (formula.rolls-Compare c a b)) ∙ ap (λ (f : Bool → Assertion). f false) (assertion_of-roll (one.Compare c a b))

abbrev pub NoComparison : Formula → Type 0
NoComparison p = (c : Comparison) (a b : Term) → p ≡ formula.Compare c a b → ⊥

opaque_step : (x : one.Formula-F Formula Term) (negative : Bool) → NoComparison (roll-Formula x) → assertion_of (roll-Formula x) negative ≡ Opaque
opaque_step (one.Compare c a b) negative h = absurd (h c a b (formula.rolls-Compare c a b))
opaque_step x negative h = ap (λ (f : Bool → Assertion). f negative) (assertion_of-roll x)

-- what holds of each variant of formula holds of all
pub formula_cases : (P : Formula → Type 0) → ((x : one.Formula-F Formula Term) → P (roll-Formula x)) → (p : Formula) → P p
formula_cases P f p =
    ind-Formula P (λ _. Unit {0}) (λ x y e. subst (λ z. P (roll-Formula z)) e (f (map-Formula _ _ Formula Term (λ p. p.0) (λ p. p.0) y)))
    (λ x y e. tt) p

pub assertion_of-other : (p : Formula) (negative : Bool) → NoComparison p → assertion_of p negative ≡ Opaque
assertion_of-other p negative = formula_cases (λ p. NoComparison p → assertion_of p negative ≡ Opaque) (λ x. opaque_step x negative) p
