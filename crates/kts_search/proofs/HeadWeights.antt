-- A head of a literal weighs at most a few times as much as the literal.
use Rattle.std.proofs.Common.{◌≡◌, refl, sym, ap, ◌∙◌, subst, inl, inr, ⊎_elim, ℕ, zero, suc, ◌+◌, ◌*◌, ◌≤◌, List, [], ◌∷◌, ◌++◌, map, Bool, true, false, Option, Some, None, arith}
use Rattle.std.specs.Prelude.{pos, flat_map}
use Rattle.std.specs.List.{enumerate_from}
use Rattle.kts_abs.specs.declared.demand.Op.{Op}
use Rattle.kts_abs.specs.declared.demand.Op.TheVariants.{AtLeast, AtMost, Within, Without}
use Rattle.kts_abs.proofs.Listed.{In, each_in}
use Rattle.kts_clause.specs.declared.literal.Literal.{Literal}
use Rattle.kts_emit.specs.BodyWeights.{first_weight, later_weight, sum_weight, bound_weight, head_weight}
use Rattle.kts_emit.specs.Weights.{sequence_weight, term_weight, formula_weight, weight_of_term, weight_of_formula, once}
use Rattle.kts_emit.proofs.CodeLevels.{weight_of_term-roll, weight_of_formula-roll}
use Rattle.kts_plan.specs.declared.bound.Bound.{Bound}
use Rattle.kts_plan.specs.declared.bound.Bound.TheVariants.{Side}
use Rattle.kts_plan.specs.declared.head.Head.{Head}
use Rattle.kts_plan.specs.Assertions.{Assertion, comparison_assertion, assertion_of}
use Rattle.kts_plan.specs.BareAccesses.{bare}
use Rattle.kts_plan.specs.Heads.{all_but, signed_term, head_of, op_below, rest, heads_below, heads_zero, heads_of_sum, heads_of_assertion, heads_of}
use Rattle.kts_plan.proofs.LiteralRolls.{bare_is, assertion_at, assertion_of-roll}
use Rattle.kts_plan.proofs.NumberedItems.{numbered_is, in_split, got_in}
use Rattle.kts_spec.specs.declared.tree.Comparison.{Comparison}
use Rattle.kts_spec.specs.declared.tree.Comparison.TheVariants as c
use Rattle.kts_spec.specs.declared.tree.Term.{Term, roll-Term}
use Rattle.kts_spec.specs.declared.tree.Term.TheVariants as term
use Rattle.kts_spec.specs.declared.tree.Formula.{Formula, roll-Formula}
use Rattle.kts_spec.specs.declared.tree.Formula.TheOpen as one
use Rattle.kts_spec.specs.declared.tree.Formula.TheFolds.{ind-Formula, map-Term, map-Formula}
use Rattle.kts_spec.specs.Addends.{Sign, Plus, Minus, Addend, opposite, alone, difference, term_addends, addends, minus, negation}
use Rattle.kts_spec.specs.Reads.{Access}
use Rattle.kts_spec.proofs.AddendRanges.{WithAddends, paired, firsts, parts_back}
use Rattle.kts_spec.proofs.Inductions.{FormulaPart, Part, terms, bare as bare_tree, by_terms}
use Rattle.kts_spec.proofs.Rolls.{addends-roll}
use Rattle.kts_search.proofs.ReadCounts.{chain_heavier}

-- ---- addends

abbrev weight : Term → ℕ
weight = weight_of_term once

-- the weight of addends, each joined to what is before it
abbrev addends_weight : List Addend → ℕ
addends_weight [] = 0
addends_weight (a ∷ xs) = weight a.term + 1 + addends_weight xs

both_weigh : (xs ys : List Addend) → addends_weight (xs ++ ys) ≡ addends_weight xs + addends_weight ys
both_weigh [] ys = omega arith
both_weigh (a ∷ xs) ys = omega (arith, both_weigh xs ys)

opposites_weigh : (xs : List Addend) → addends_weight (map opposite xs) ≡ addends_weight xs
opposites_weigh [] = refl
opposites_weigh (a ∷ xs) = omega (arith, opposites_weigh xs)

others_weigh : (k : ℕ) (xs : List Addend) → addends_weight (all_but k xs) ≤ addends_weight xs
others_weigh k [] = omega arith
others_weigh zero (a ∷ xs) = omega arith
others_weigh (suc k) (a ∷ xs) = omega (arith, others_weigh k xs)

one_weighs : (xs : List Addend) (a : Addend) → In a xs → weight a.term ≤ addends_weight xs
one_weighs [] a i = absurd i
one_weighs (b ∷ xs) a (inl e) = let same = ap (λ (a : Addend). weight a.term) e in omega arith
one_weighs (b ∷ xs) a (inr i) = omega (arith, one_weighs xs a i)

-- the addends of a term weigh at most twice as much as the term
abbrev AreLight : Term → Type 0
AreLight t = addends_weight (addends t) ≤ 2 * weight t

abbrev with_addends : List Term → List WithAddends
with_addends = map (λ (t : Term). (t, addends t))

sum_light : (parts : List (Part AreLight))
    → addends_weight (flat_map (λ (p : WithAddends). p.1) (with_addends (terms AreLight parts))) ≤ 2 * sequence_weight (map weight (terms AreLight parts))
sum_light [] = omega arith
sum_light (p ∷ parts) =
    let first = p.1 in
    let more = sum_light parts in
    omega (arith, both_weigh (addends p.0) (flat_map (λ (p : WithAddends). p.1) (with_addends (terms AreLight parts))))

taken_light : (parts : List (Part AreLight))
    → addends_weight (flat_map (map opposite) (map (λ (p : WithAddends). p.1) (with_addends (terms AreLight parts))))
    ≤ 2 * sequence_weight (map weight (terms AreLight parts))
taken_light [] = omega arith
taken_light (p ∷ parts) =
    let first = p.1 in
    let same = opposites_weigh (addends p.0) in
    let more = taken_light parts in
    omega (arith, both_weigh (map opposite (addends p.0)) (flat_map (map opposite) (map (λ (p : WithAddends). p.1) (with_addends (terms AreLight parts)))))

difference_light : (parts : List (Part AreLight))
    → addends_weight (difference (map (λ (p : WithAddends). p.1) (with_addends (terms AreLight parts))))
    ≤ 2 * sequence_weight (map weight (terms AreLight parts))
difference_light [] = omega arith
difference_light (p ∷ parts) =
    let first = p.1 in
    let more = taken_light parts in
    omega (arith, both_weigh (addends p.0) (flat_map (map opposite) (map (λ (p : WithAddends). p.1) (with_addends (terms AreLight parts)))))

abbrev weight_at : one.Term-F Formula Term → ℕ
weight_at x = term_weight once (map-Term Formula Term ℕ ℕ (weight_of_formula once) weight x)

-- a term that is its own addend
alone_light : (x : one.Term-F Formula Term) → 1 ≤ weight_at x → addends_weight (alone (roll-Term (firsts (paired x)))) ≤ 2 * weight_at x
alone_light x some = let same = weight_of_term-roll once x in rw (parts_back x) (omega arith)

light_case : (y : one.Term-F FormulaPart (Part AreLight)) → addends_weight (term_addends (paired (bare_tree AreLight y))) ≤ 2 * weight_at (bare_tree AreLight y)
light_case (one.Add parts) =
    let each = sum_light parts in
    let heavier = chain_heavier (map weight (terms AreLight parts)) in
    omega arith
light_case (one.Sub parts) = let each = difference_light parts in omega arith
light_case (one.Number n) = alone_light (bare_tree AreLight (one.Number n)) (omega arith)
light_case (one.Var k) = alone_light (bare_tree AreLight (one.Var k)) (omega arith)
light_case (one.Given f args) = alone_light (bare_tree AreLight (one.Given f args)) (omega arith)
light_case (one.Choice x args) = alone_light (bare_tree AreLight (one.Choice x args)) (omega arith)
light_case (one.Mul parts) = alone_light (bare_tree AreLight (one.Mul parts)) (omega arith)
light_case (one.Min parts) = alone_light (bare_tree AreLight (one.Min parts)) (omega arith)
light_case (one.Max parts) = alone_light (bare_tree AreLight (one.Max parts)) (omega arith)
light_case (one.Sum i p a) = alone_light (bare_tree AreLight (one.Sum i p a)) (omega arith)

light_all : (y : one.Term-F FormulaPart (Part AreLight)) → AreLight (roll-Term (bare_tree AreLight y))
light_all y = rw (addends-roll (bare_tree AreLight y), weight_of_term-roll once (bare_tree AreLight y)) (light_case y)

addends_light : (t : Term) → AreLight t
addends_light t = by_terms AreLight light_all t

-- ---- bounds

first_small : (b : Bool) → first_weight b ≤ 2
first_small true = omega arith
first_small false = omega arith

module _ (sign : Addend → Bool) where
  abbrev signed : Addend → Bool × Term
  signed a = (sign a, a.term)

  later_light : (xs : List Addend) → later_weight once (map signed xs) ≡ addends_weight xs
  later_light [] = refl
  later_light (a ∷ xs) = omega (arith, later_light xs)

  signed_light : (xs : List Addend) → sum_weight once (map signed xs) ≤ addends_weight xs + 1
  signed_light [] = omega arith
  signed_light (a ∷ xs) = omega (arith, later_light xs, first_small (sign a))

rest_light : (s : Sign) (xs : List Addend) → bound_weight once (rest s xs) ≤ addends_weight xs + 1
rest_light Plus xs = signed_light (λ a. (signed_term (opposite a)).0) xs
rest_light Minus xs = signed_light (λ a. (signed_term a).0) xs

-- ---- heads

-- a head of a term weighs at most as much as the term, its bound, and two instructions
head_light : (op : Op) (b : Bound) (t : Term) (o : Option Access) → bare t ≡ o → (h : Head) → In h (head_of op b o)
    → head_weight once h ≤ weight t + bound_weight once b + 2
head_light op b t None e h i = absurd i
head_light op b t (Some a) e h (inr i) = absurd i
head_light op b t (Some a) e h (inl i) =
    let whole = ap weight (bare_is t a e).whole in
    let own = weight_of_term-roll once (one.Choice a.0 a.1) in
    subst (λ h. head_weight once h ≤ weight t + bound_weight once b + 2) (sym i) (omega arith)

abbrev OfAddends : (Addend → List Addend → List Head) → Type 0
OfAddends heads = (a : Addend) (others : List Addend) (h : Head) → In h (heads a others) → head_weight once h ≤ weight a.term + addends_weight others + 3

below_light : OfAddends heads_below
below_light a others h i =
    let first = head_light (op_below a.sign) (rest a.sign others) a.term (bare a.term) refl h i in
    let second = rest_light a.sign others in
    omega arith

zero_light : OfAddends heads_zero
zero_light a others h i =
    let second = rest_light a.sign others in
    ⊎_elim
    (λ j. let first = head_light AtLeast (rest a.sign others) a.term (bare a.term) refl h j in omega arith)
    (λ j. let first = head_light AtMost (rest a.sign others) a.term (bare a.term) refl h j in omega arith)
    (in_split h (head_of AtLeast (rest a.sign others) (bare a.term)) (head_of AtMost (rest a.sign others) (bare a.term)) i)

sum_heads_light : (heads : Addend → List Addend → List Head) → OfAddends heads → (xs : List Addend) (h : Head) → In h (heads_of_sum heads xs)
    → head_weight once h ≤ 2 * addends_weight xs + 3
sum_heads_light heads each xs h i =
    let f = each_in (λ (numbered : ℕ × Addend). heads numbered.1 (all_but numbered.0 xs)) h (enumerate_from 0 xs) i in
    let n = numbered_is 0 xs f.item f.held in
    let own = one_weighs xs f.item.1 (got_in xs n.place f.item.1 n.is) in
    let others = others_weigh f.item.0 xs in
    let all = each f.item.1 (all_but f.item.0 xs) h f.is in
    omega arith

sides_light : (op : Op) (a b : Term) (h : Head) → In h (head_of op (Side b) (bare a) ++ head_of op (Side a) (bare b)) → head_weight once h ≤ weight a + weight b + 2
sides_light op a b h i =
    ⊎_elim
    (λ j. head_light op (Side b) a (bare a) refl h j)
    (λ j. let side = head_light op (Side a) b (bare b) refl h j in omega arith)
    (in_split h (head_of op (Side b) (bare a)) (head_of op (Side a) (bare b)) i)

minus_light : (a b : Term) → addends_weight (minus a b) ≤ 2 * (weight a + weight b)
minus_light a b =
    let first = addends_light a in
    let second = addends_light b in
    let same = opposites_weigh (addends b) in
    let last = both_weigh (map opposite (addends b)) [] in
    omega (arith, both_weigh (addends a) (map opposite (addends b) ++ []))

-- a strict comparison has one addend more
more_light : (a b : Term) → addends_weight (minus a b ++ alone (term.Number (pos 1))) ≤ 2 * (weight a + weight b) + 2
more_light a b =
    let all = minus_light a b in
    let number = ap weight (sym (term.rolls-Number (pos 1))) ∙ weight_of_term-roll once (one.Number (pos 1)) in
    omega (arith, both_weigh (minus a b) (alone (term.Number (pos 1))))

comparison_light : (o : Comparison) (a b : Term) (h : Head) → In h (heads_of_assertion (comparison_assertion o a b)) → head_weight once h ≤ 4 * (weight a + weight b) + 7
comparison_light c.Le a b h i = let all = minus_light a b in omega (arith, sum_heads_light heads_below below_light (minus a b) h i)
comparison_light c.Lt a b h i = let all = more_light a b in omega (arith, sum_heads_light heads_below below_light (minus a b ++ alone (term.Number (pos 1))) h i)
comparison_light c.Ge a b h i = let all = minus_light b a in omega (arith, sum_heads_light heads_below below_light (minus b a) h i)
comparison_light c.Gt a b h i = let all = more_light b a in omega (arith, sum_heads_light heads_below below_light (minus b a ++ alone (term.Number (pos 1))) h i)
comparison_light c.Eq a b h i = let all = minus_light a b in omega (arith, sum_heads_light heads_zero zero_light (minus a b) h i)
comparison_light c.Ne a b h i = absurd i
comparison_light c.Same a b h i = omega (arith, sides_light Within a b h i)
comparison_light c.Other a b h i = omega (arith, sides_light Without a b h i)

-- ---- literals

abbrev HeadsLight : Formula → Type 0
HeadsLight p = (negative : Bool) (h : Head) → In h (heads_of_assertion (assertion_of p negative)) → head_weight once h ≤ 4 * weight_of_formula once p + 7

assertion_light : (x : one.Formula-F Formula Term) (negative : Bool) (h : Head) → In h (heads_of_assertion (assertion_at x negative))
    → head_weight once h ≤ 4 * formula_weight once (map-Formula Formula Term ℕ ℕ (weight_of_formula once) weight x) + 7
assertion_light (one.Compare o a b) false h i = omega (arith, comparison_light o a b h i)
assertion_light (one.Compare o a b) true h i = omega (arith, comparison_light (negation o) a b h i)
assertion_light other negative h i = absurd i

-- twice the literal for the addend that it bounds, and twice for those in its bound
pub heads_light : (l : Literal) (h : Head) → In h (heads_of l) → head_weight once h ≤ 4 * weight_of_formula once l.formula + 7
heads_light l h i = ind-Formula HeadsLight (λ _. Unit {0}) (λ x y e. by x) (λ x y e. tt) l.formula l.negative h i
  where
    by : (x : one.Formula-F Formula Term) → HeadsLight (roll-Formula x)
    by x negative h i =
        rw (weight_of_formula-roll once x)
        (assertion_light x negative h (subst (λ (f : Bool → Assertion). In h (heads_of_assertion (f negative))) (assertion_of-roll x) i))
