-- Terms beside what is shown of them, in an induction that shows nothing of formulas.
use Rattle.std.proofs.Common.{subst, List, map}
use Rattle.kts_spec.specs.declared.tree.Term.{Term, roll-Term}
use Rattle.kts_spec.specs.declared.tree.Formula.{Formula}
use Rattle.kts_spec.specs.declared.tree.Formula.TheOpen as one
use Rattle.kts_spec.specs.declared.tree.Formula.TheFolds.{ind-Term, map-Term}

abbrev pub FormulaPart : Type 0
FormulaPart = (p : Formula) × Unit {0}

module _ (P : Term → Type 0) where
  -- a part of a tree, of which it is shown
  abbrev pub Part : Type 0
  Part = (t : Term) × P t

  abbrev pub terms : List Part → List Term
  terms = map (λ (p : Part). p.0)

  -- the tree alone
  abbrev pub bare : one.Term-F FormulaPart Part → one.Term-F Formula Term
  bare y = map-Term FormulaPart Part Formula Term (λ p. p.0) (λ p. p.0) y

  pub by_terms : ((y : one.Term-F FormulaPart Part) → P (roll-Term (bare y))) → (t : Term) → P t
  by_terms step t = ind-Term (λ _. Unit {0}) P (λ x y e. tt) (λ x y e. subst (λ z. P (roll-Term z)) e (step y)) t
