-- A literal has at most two heads for each of its trees.
use Rattle.std.proofs.Common.{◌≡◌, refl, sym, ap, ◌∙◌, subst, ℕ, suc, ◌+◌, ◌*◌, ◌≤◌, List, [], ◌∷◌, ◌++◌, length, map, fold, Bool, Option, Some, None, length-append, arith}
use Rattle.std.specs.Prelude.{flat_map, pos}
use Rattle.std.specs.List.{enumerate_from}
use Rattle.std.proofs.lemmas.List.{length-map}
use Rattle.std.proofs.lemmas.List.FromFn.{length-enumerate_from}
use Rattle.kts_abs.specs.declared.demand.Op.{Op}
use Rattle.kts_abs.specs.declared.demand.Op.TheVariants.{AtLeast, AtMost, Within, Without}
use Rattle.kts_spec.specs.Addends.{Addend, added, opposite, minus, addends, addends_between}
use Rattle.kts_spec.specs.Reads.{Access}
use Rattle.kts_spec.specs.Sizes.{Size, no_trees, beside, comparison_over, term_size, formula_size, size_of_term, size_of_formula}
use Rattle.kts_spec.specs.declared.tree.Comparison.{Comparison}
use Rattle.kts_spec.specs.declared.tree.Comparison.TheVariants.{Le, Lt, Ge, Gt, Eq, Ne, Same, Other}
use Rattle.kts_spec.specs.declared.tree.Term.{Term, roll-Term}
use Rattle.kts_spec.specs.declared.tree.Term.TheVariants.{Number}
use Rattle.kts_spec.specs.declared.tree.Formula.{Formula, roll-Formula}
use Rattle.kts_spec.specs.declared.tree.Formula.TheVariants as formula
use Rattle.kts_spec.specs.declared.tree.Formula.TheOpen as one
use Rattle.kts_spec.specs.declared.tree.Formula.TheFolds.{map-Term, map-Formula}
use Rattle.kts_spec.proofs.AddendCounts.{addend_count}
use Rattle.kts_spec.proofs.Inductions.{FormulaPart, Part, terms, bare as bare_tree, by_terms}
use Rattle.kts_spec.proofs.Rolls.{size_of_term-roll, size_of_formula-roll}
use Rattle.kts_spec.proofs.TreeSizes.{size_of_formula-Compare}
use Rattle.kts_plan.specs.BareAccesses.{bare}
use Rattle.kts_plan.specs.Heads.{all_but, head_of, heads_below, heads_zero, heads_of_sum, heads_of_assertion, heads_of, op_below, rest}
use Rattle.kts_plan.specs.Assertions.{Assertion, comparison_assertion, assertion_of}
use Rattle.kts_plan.specs.declared.bound.Bound.{Bound}
use Rattle.kts_plan.specs.declared.bound.Bound.TheVariants.{Side}
use Rattle.kts_plan.specs.declared.head.Head.{Head}
use Rattle.kts_clause.specs.declared.literal.Literal.{Literal}
use Rattle.kts_classify.specs.HeadPlaces.{signed_comparison}
use Rattle.kts_classify.proofs.AssertionEquations.{assertion_of-roll, assertion_of-Compare, formula_cases}

-- ---- no more addends than trees

abbrev Fewer : Term → Type 0
Fewer t = (size_of_term t).addends ≤ (size_of_term t).trees

fewer_each : (parts : List (Part Fewer)) (s : Size) → s.addends ≤ s.trees → (fold beside s (map size_of_term (terms Fewer parts))).addends ≤ (fold beside s (map size_of_term (terms Fewer parts))).trees
fewer_each [] s h = h
fewer_each (p ∷ parts) s h = let here = p.1 in fewer_each parts (beside s (size_of_term p.0)) (omega (arith, here))

abbrev size_step : one.Term-F Formula Term → Size
size_step x = term_size (map-Term Formula Term Size Size size_of_formula size_of_term x)

fewer_case : (y : one.Term-F FormulaPart (Part Fewer)) → (size_step (bare_tree Fewer y)).addends ≤ (size_step (bare_tree Fewer y)).trees
fewer_case (one.Number n) = omega arith
fewer_case (one.Var k) = omega arith
fewer_case (one.Given f args) = omega arith
fewer_case (one.Choice x args) = omega arith
fewer_case (one.Add parts) = let h = fewer_each parts no_trees (omega arith) in omega (arith, h)
fewer_case (one.Sub parts) = let h = fewer_each parts no_trees (omega arith) in omega (arith, h)
fewer_case (one.Mul parts) = omega arith
fewer_case (one.Min parts) = omega arith
fewer_case (one.Max parts) = omega arith
fewer_case (one.Sum i p a) = omega arith

fewer_all : (y : one.Term-F FormulaPart (Part Fewer)) → Fewer (roll-Term (bare_tree Fewer y))
fewer_all y = subst (λ (s : Size). s.addends ≤ s.trees) (sym (size_of_term-roll (bare_tree Fewer y))) (fewer_case y)

few_addends : (t : Term) → length (addends t) ≤ (size_of_term t).trees
few_addends t = let same = addend_count t in let few = by_terms Fewer fewer_all t in omega (arith, same, few)

-- ---- heads of sums and of sides

one_at_most : (op : Op) (bound : Bound) (access : Option Access) → length (head_of op bound access) ≤ 1
one_at_most op bound None = omega arith
one_at_most op bound (Some a) = omega arith

two_at_most : (op op' : Op) (bound bound' : Bound) (access access' : Option Access) → length (head_of op bound access ++ head_of op' bound' access') ≤ 2
two_at_most op op' bound bound' access access' =
    let both = length-append (head_of op bound access) (head_of op' bound' access') in
    let first = one_at_most op bound access in
    let second = one_at_most op' bound' access' in
    omega (arith, both, first, second)

flat_at_most : {X Y : Type 0} (f : X → List Y) (n : ℕ) → ((x : X) → length (f x) ≤ n) → (xs : List X) → length (flat_map f xs) ≤ length xs * n
flat_at_most f n h [] = omega arith
flat_at_most f n h (x ∷ xs) = let both = length-append (f x) (flat_map f xs) in let here = h x in let more = flat_at_most f n h xs in omega (arith, both, here, more)

sum_heads : (heads : Addend → List Addend → List Head) → ((a : Addend) (others : List Addend) → length (heads a others) ≤ 2) → (xs : List Addend) → length (heads_of_sum heads xs) ≤ length xs * 2
sum_heads heads h xs =
    let few = flat_at_most (λ (numbered : ℕ × Addend). heads numbered.1 (all_but numbered.0 xs)) 2 (λ numbered. h numbered.1 (all_but numbered.0 xs)) (enumerate_from 0 xs) in
    let same = length-enumerate_from 0 xs in
    omega (arith, few, same)

below_two : (a : Addend) (others : List Addend) → length (heads_below a others) ≤ 2
below_two a others = let h = one_at_most (op_below a.sign) (rest a.sign others) (bare a.term) in omega (arith, h)

zero_two : (a : Addend) (others : List Addend) → length (heads_zero a others) ≤ 2
zero_two a others = two_at_most AtLeast AtMost (rest a.sign others) (rest a.sign others) (bare a.term) (bare a.term)

minus_length : (a b : Term) → length (minus a b) ≤ (size_of_term a).trees + (size_of_term b).trees
minus_length a b =
    let both = length-append (addends a) (map opposite (addends b) ++ []) in
    let last = length-append (map opposite (addends b)) [] in
    let same = length-map (addends b) opposite in
    let first = few_addends a in
    let second = few_addends b in
    omega (arith, both, last, same, first, second)

one_more : {X : Type 0} (xs : List X) (x : X) → length (xs ++ x ∷ []) ≡ length xs + 1
one_more xs x = let e = length-append xs (x ∷ []) in omega (arith, e)

compared : (c : Comparison) (a b : Term) → length (heads_of_assertion (comparison_assertion c a b)) ≤ 2 * ((size_of_term a).trees + (size_of_term b).trees + 1)
compared Le a b = let few = sum_heads heads_below below_two (addends_between Le a b) in let long = minus_length a b in omega (arith, few, long)
compared Lt a b = let few = sum_heads heads_below below_two (addends_between Lt a b) in let long = minus_length a b in let more = one_more (minus a b) (added (Number (pos 1))) in omega (arith, few, long, more)
compared Ge a b = let few = sum_heads heads_below below_two (addends_between Ge a b) in let long = minus_length b a in omega (arith, few, long)
compared Gt a b = let few = sum_heads heads_below below_two (addends_between Gt a b) in let long = minus_length b a in let more = one_more (minus b a) (added (Number (pos 1))) in omega (arith, few, long, more)
compared Eq a b = let few = sum_heads heads_zero zero_two (addends_between Eq a b) in let long = minus_length a b in omega (arith, few, long)
compared Ne a b = omega arith
compared Same a b = let few = two_at_most Within Within (Side b) (Side a) (bare a) (bare b) in omega (arith, few)
compared Other a b = let few = two_at_most Without Without (Side b) (Side a) (bare a) (bare b) in omega (arith, few)

over_trees : (c : Comparison) (s : Size) → (comparison_over c s).trees ≡ suc s.trees
over_trees Le s = refl
over_trees Lt s = refl
over_trees Ge s = refl
over_trees Gt s = refl
over_trees Eq s = refl
over_trees Ne s = refl
over_trees Same s = refl
over_trees Other s = refl

abbrev Few : Formula → Type 0
Few p = (negative : Bool) → length (heads_of_assertion (assertion_of p negative)) ≤ 2 * (size_of_formula p).trees

few_compared : (c : Comparison) (a b : Term) → Few (formula.Compare c a b)
few_compared c a b negative =
    let few = compared (signed_comparison c negative) a b in
    let same = ap (λ form. length (heads_of_assertion form)) (assertion_of-Compare c a b negative) in
    let size = ap (λ (s : Size). s.trees) (size_of_formula-Compare c a b) ∙ over_trees c (beside (size_of_term a) (size_of_term b)) in
    omega (arith, few, same, size)

few_step : (x : one.Formula-F Formula Term) → Few (roll-Formula x)
few_step (one.Compare c a b) negative = subst Few (sym (formula.rolls-Compare c a b)) (few_compared c a b) negative
few_step x negative = let none = ap (λ (f : Bool → Assertion). length (heads_of_assertion (f negative))) (assertion_of-roll x) in omega (arith, none)

pub heads_few : (l : Literal) → length (heads_of l) ≤ 2 * (size_of_formula l.formula).trees
heads_few l = formula_cases Few few_step l.formula l.negative

-- ---- every formula has a tree

over_some : (c : Comparison) (s : Size) → 1 ≤ (comparison_over c s).trees
over_some c s = let e = over_trees c s in omega (arith, e)

some_step : (x : one.Formula-F Formula Term) → 1 ≤ (formula_size (map-Formula Formula Term Size Size size_of_formula size_of_term x)).trees
some_step (one.Compare c a b) = over_some c (beside (size_of_term a) (size_of_term b))
some_step (one.And ps) = omega arith
some_step (one.Or ps) = omega arith
some_step (one.Not p) = omega arith
some_step (one.Implies p q) = omega arith
some_step (one.Forall indexes p) = omega arith
some_step (one.Exists indexes p) = omega arith

pub has_tree : (p : Formula) → 1 ≤ (size_of_formula p).trees
has_tree = formula_cases (λ p. 1 ≤ (size_of_formula p).trees) (λ x. subst (λ (s : Size). 1 ≤ s.trees) (sym (size_of_formula-roll x)) (some_step x))
