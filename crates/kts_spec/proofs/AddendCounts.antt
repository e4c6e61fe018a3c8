-- A term has as many addends as its size says.
use Rattle.std.proofs.Common.{◌≡◌, refl, ◌+◌, List, [], ◌∷◌, length, map, fold, length-append, arith}
use Rattle.std.specs.Prelude.{flat_map}
use Rattle.std.proofs.lemmas.List.{length-map}
use Rattle.kts_spec.specs.declared.tree.Term.{Term, roll-Term}
use Rattle.kts_spec.specs.declared.tree.Formula.{Formula}
use Rattle.kts_spec.specs.declared.tree.Formula.TheOpen as one
use Rattle.kts_spec.specs.declared.tree.Formula.TheFolds.{map-Term}
use Rattle.kts_spec.specs.Addends.{Addend, opposite, difference, term_addends, addends}
use Rattle.kts_spec.specs.Sizes.{Size, no_trees, beside, all_beside, term_size, size_of_term, size_of_formula}
use Rattle.kts_spec.proofs.Rolls.{addends-roll, size_of_term-roll}
use Rattle.kts_spec.proofs.Inductions.{FormulaPart, Part, terms, bare, by_terms}

abbrev Counted : Term → Type 0
Counted t = length (addends t) ≡ (size_of_term t).addends

abbrev with_addends : List Term → List (Term × List Addend)
with_addends = map (λ (t : Term). (t, addends t))

sum_counted : (parts : List (Part Counted)) (s : Size) → s.addends + length (flat_map (λ (p : Term × List Addend). p.1) (with_addends (terms Counted parts))) ≡ (fold beside s (map size_of_term (terms Counted parts))).addends
sum_counted [] s = omega arith
sum_counted (p ∷ parts) s =
    let first = p.1 in
    let rest = sum_counted parts (beside s (size_of_term p.0)) in
    let both = length-append (addends p.0) (flat_map (λ (p : Term × List Addend). p.1) (with_addends (terms Counted parts))) in
    omega arith

all_counted : (parts : List (Part Counted)) → length (flat_map (λ (p : Term × List Addend). p.1) (with_addends (terms Counted parts))) ≡ (all_beside (map size_of_term (terms Counted parts))).addends
all_counted parts = let h = sum_counted parts no_trees in omega arith

taken_counted : (parts : List (Part Counted)) (s : Size) → s.addends + length (flat_map (map opposite) (map (λ (p : Term × List Addend). p.1) (with_addends (terms Counted parts)))) ≡ (fold beside s (map size_of_term (terms Counted parts))).addends
taken_counted [] s = omega arith
taken_counted (p ∷ parts) s =
    let first = p.1 in
    let rest = taken_counted parts (beside s (size_of_term p.0)) in
    let same = length-map (addends p.0) opposite in
    let both = length-append (map opposite (addends p.0)) (flat_map (map opposite) (map (λ (p : Term × List Addend). p.1) (with_addends (terms Counted parts)))) in
    omega arith

difference_counted : (parts : List (Part Counted)) (s : Size) → s.addends ≡ 0 → length (difference (map (λ (p : Term × List Addend). p.1) (with_addends (terms Counted parts)))) ≡ (fold beside s (map size_of_term (terms Counted parts))).addends
difference_counted [] s e = omega arith
difference_counted (p ∷ parts) s e =
    let first = p.1 in
    let rest = taken_counted parts (beside s (size_of_term p.0)) in
    let both = length-append (addends p.0) (flat_map (map opposite) (map (λ (p : Term × List Addend). p.1) (with_addends (terms Counted parts)))) in
    omega arith

counted_case : (y : one.Term-F FormulaPart (Part Counted)) → length (term_addends (map-Term Formula Term (Formula × Unit {0}) (Term × List Addend) (λ p. (p, tt)) (λ t. (t, addends t)) (bare Counted y))) ≡ (term_size (map-Term Formula Term Size Size size_of_formula size_of_term (bare Counted y))).addends
counted_case (one.Number n) = refl
counted_case (one.Var k) = refl
counted_case (one.Given f args) = refl
counted_case (one.Choice x args) = refl
counted_case (one.Add parts) = all_counted parts
counted_case (one.Sub parts) = difference_counted parts _ refl
counted_case (one.Mul parts) = refl
counted_case (one.Min parts) = refl
counted_case (one.Max parts) = refl
counted_case (one.Sum i p a) = refl

counted_all : (y : one.Term-F FormulaPart (Part Counted)) → Counted (roll-Term (bare Counted y))
counted_all y = rw (addends-roll (bare Counted y), size_of_term-roll (bare Counted y)) (counted_case y)

pub addend_count : (t : Term) → Counted t
addend_count t = by_terms Counted counted_all t
