-- The literals and clauses of a formula, one level at a time.
use Rattle.std.proofs.Common.{◌≡◌, refl, ap, List, [], ◌∷◌, map}
use Rattle.kts_spec.specs.declared.tree.Term.{Term}
use Rattle.kts_spec.specs.declared.tree.Formula.{Formula, roll-Formula}
use Rattle.kts_spec.specs.declared.tree.Formula.TheOpen as one
use Rattle.kts_spec.specs.declared.tree.Formula.TheFolds.{map-Formula, para-roll-Formula}
use Rattle.kts_clause.specs.Clauses.{Parts, FormulaPart, TermPart, self, parts_step, parts_of}

-- formulas beside what they give
abbrev pub with_each : List Formula → List FormulaPart
with_each = map (λ (p : Formula). (p, parts_of p))

abbrev pub with_parts : one.Formula-F Formula Term → one.Formula-F FormulaPart TermPart
with_parts x = map-Formula Formula Term FormulaPart TermPart (λ p. (p, parts_of p)) (λ t. (t, tt)) x

pub parts-roll : (x : one.Formula-F Formula Term) → parts_of (roll-Formula x) ≡ parts_step (with_parts x)
unfolding parts_of
parts-roll x = para-roll-Formula Parts (Unit {0}) parts_step (λ _. tt) x

formulas_back : (ps : List Formula) → map (λ (p : FormulaPart). p.0) (with_each ps) ≡ ps
formulas_back [] = refl
formulas_back (p ∷ ps) = cc (formulas_back ps)

-- the formula of a variant is the formula
pub self_is : (x : one.Formula-F Formula Term) → self (with_parts x) ≡ roll-Formula x
self_is (one.Compare c a b) = refl
self_is (one.And ps) = ap (λ l. roll-Formula (one.And l)) (formulas_back ps)
self_is (one.Or ps) = ap (λ l. roll-Formula (one.Or l)) (formulas_back ps)
self_is (one.Not p) = refl
self_is (one.Implies p q) = refl
self_is (one.Forall indexes p) = refl
self_is (one.Exists indexes p) = refl
