-- Formulas beside what is shown of them, in an induction that shows nothing of terms.
use Rattle.std.proofs.Common.{subst, List, map}
use Rattle.kts_spec.specs.declared.tree.Term.{Term}
use Rattle.kts_spec.specs.declared.tree.Formula.{Formula, roll-Formula}
use Rattle.kts_spec.specs.declared.tree.Formula.TheOpen as one
use Rattle.kts_spec.specs.declared.tree.Formula.TheFolds.{ind-Formula, map-Formula}

abbrev pub AnyTerm : Type 0
AnyTerm = (t : Term) × Unit {0}

module _ (P : Formula → Type 0) where
  -- a part of a formula, of which it is shown
  abbrev pub Part : Type 0
  Part = (p : Formula) × P p

  abbrev pub formulas : List Part → List Formula
  formulas = map (λ (p : Part). p.0)

  -- the formula alone
  abbrev pub bare : one.Formula-F Part AnyTerm → one.Formula-F Formula Term
  bare y = map-Formula Part AnyTerm Formula Term (λ p. p.0) (λ t. t.0) y

  pub by_formulas : ((y : one.Formula-F Part AnyTerm) → P (roll-Formula (bare y))) → (p : Formula) → P p
  by_formulas step p = ind-Formula P (λ _. Unit {0}) (λ x y e. subst (λ z. P (roll-Formula z)) e (step y)) (λ x y e. tt) p
