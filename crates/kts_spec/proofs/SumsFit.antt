-- The sum of each comparison in a specification stays in the machine's range.
use Rattle.std.proofs.Common.{◌≡◌, refl, sym, ◌∙◌, subst, ℕ, ◌+◌, ◌≤◌, List, [], ◌∷◌, ◌++◌, length, map, fold, Bool, true, ◌&&◌, Option, None, Some, nat_le, length-append, pos, arith}
use Rattle.std.specs.Prelude.{option_and_then}
use Rattle.std.specs.List.{list_all}
use Rattle.std.proofs.lemmas.Bool.{and_parts}
use Rattle.std.proofs.lemmas.List.{length-map}
use Rattle.kts_spec.specs.declared.declarations.Family.{Family}
use Rattle.kts_base.specs.Limits.{most_addends, most_parts, most_trees, most_depth}
use Rattle.kts_spec.specs.declared.schema.Schema.{Schema}
use Rattle.kts_spec.specs.declared.tree.Comparison.{Comparison}
use Rattle.kts_spec.specs.declared.tree.Comparison.TheVariants.{Le, Lt, Ge, Gt, Eq, Ne, Same, Other}
use Rattle.kts_spec.specs.declared.tree.Term.{Term, roll-Term}
use Rattle.kts_spec.specs.declared.tree.Term.TheVariants.{Number as NumberTerm}
use Rattle.kts_spec.specs.declared.tree.Formula.{Formula, roll-Formula}
use Rattle.kts_spec.specs.declared.tree.Formula.TheOpen as one
use Rattle.kts_spec.specs.declared.tree.Formula.TheFolds.{ind-Formula, map-Term, map-Formula}
use Rattle.kts_spec.specs.Addends.{added, opposite, addends, minus, alone}
use Rattle.kts_spec.specs.Comparisons.{ComparisonInScope, compared_in_each, term_comparisons, formula_comparisons, comparisons_of, comparisons_in}
use Rattle.kts_spec.specs.Domain.{at_each}
use Rattle.kts_spec.specs.Ranges.{Range, one_number, total_range, difference_range, product_range, least_range, greatest_range, sum_over_range}
use Rattle.kts_spec.specs.Related.{Pairs, AllOf}
use Rattle.kts_spec.specs.Sizes.{Size, no_trees, beside, all_beside, comparison_over, term_size, formula_size, size_of_term, size_of_formula, keeps_limits, has_short_prefixes}
use Rattle.kts_spec.specs.Specifications.{is_formula}
use Rattle.kts_spec.specs.Sums.{SumFits, ComparisonFits, PartialSumsFit, PartSumsFit}
use Rattle.kts_spec.specs.Typing.{Kind, Whole, MemberOf, whole_of, whole_within, ranges, are_members, two_wholes, kind_of_use, one_index, both_whole, are_comparable, may_bind, kind_of, is_typed, term_kind, formula_typed}
use Rattle.kts_spec.proofs.AddendCounts.{addend_count}
use Rattle.kts_spec.proofs.AddendRanges.{all_append, HasRange, ranged_whole, all_opposite, addends_ranged}
use Rattle.kts_spec.proofs.Conditions.{spec_facts}
use Rattle.kts_spec.proofs.KindParts.{if_some, then_some, IsWhole, whole_of_some, ranges_some, two_wholes_some, kind_of_use_some}
use Rattle.kts_spec.proofs.PartialSums.{sum_fits}
use Rattle.kts_spec.proofs.Rolls.{kind_of-roll, is_typed-roll, size_of_term-roll, size_of_formula-roll, comparisons_of-roll, comparisons_in-roll}
use Rattle.kts_spec.proofs.Typings.{kind_of-Number, kind_of-Add}
use Rattle.kts_base.proofs.Orders.{nat_le_yes}

-- two whole numbers
pub record Wholes (k l : Option Kind) : Type 0 where
  pub left : Range
  pub right : Range
  pub left_is : IsWhole k left
  pub right_is : IsWhole l right

pub wholes_from : (k l : Option Kind) → both_whole k l ≡ true → Wholes k l
wholes_from None l e = cc
wholes_from (Some (MemberOf i)) l e = cc
wholes_from (Some (Whole v)) None e = cc
wholes_from (Some (Whole v)) (Some (MemberOf i)) e = cc
wholes_from (Some (Whole v)) (Some (Whole w)) e = record { left = v; right = w; left_is = refl; right_is = refl }

swapped : (k l : Option Kind) → Wholes k l → Wholes l k
swapped k l h = record { left = h.right; right = h.left; left_is = h.right_is; right_is = h.left_is }

module _ (schema : Schema) (scope : List ℕ) where
  one_ranged : AllOf (HasRange schema scope) (alone (NumberTerm (pos 1)))
  one_ranged = (ranged_whole schema (NumberTerm (pos 1)) scope (one_number (pos 1)) (kind_of-Number schema scope (pos 1)), tt)

  minus_ranged : (a b : Term) (v w : Range) → IsWhole (kind_of schema a scope) v → IsWhole (kind_of schema b scope) w → AllOf (HasRange schema scope) (minus a b)
  minus_ranged a b v w h k =
      all_append (HasRange schema scope) (addends a) (map opposite (addends b) ++ []) (addends_ranged schema a scope v h)
      (all_append (HasRange schema scope) (map opposite (addends b)) [] (all_opposite schema scope (addends b) (addends_ranged schema b scope w k)) tt)

  minus_count : (a b : Term) → length (minus a b) ≡ (size_of_term a).addends + (size_of_term b).addends
  minus_count a b =
      let m = addend_count a in let n = addend_count b in
      let all = length-append (addends a) (map opposite (addends b) ++ []) in
      let last = length-append (map opposite (addends b)) [] in
      let same = length-map (addends b) opposite in
      omega arith

  -- two sides with as many addends as may be, one minus the other, alone and with a 1
  side_fits : (a b : Term) → Wholes (kind_of schema a scope) (kind_of schema b scope) → (size_of_term a).addends + (size_of_term b).addends ≤ most_addends → SumFits schema scope (minus a b)
  side_fits a b h few = sum_fits schema scope (minus a b) (minus_ranged a b h.left h.right h.left_is h.right_is) (let e = minus_count a b in omega arith)

  side_fits_with_one : (a b : Term) → Wholes (kind_of schema a scope) (kind_of schema b scope) → (size_of_term a).addends + (size_of_term b).addends ≤ most_addends → SumFits schema scope (minus a b ++ alone (NumberTerm (pos 1)))
  side_fits_with_one a b h few =
      sum_fits schema scope (minus a b ++ alone (NumberTerm (pos 1)))
      (all_append (HasRange schema scope) (minus a b) (alone (NumberTerm (pos 1))) (minus_ranged a b h.left h.right h.left_is h.right_is) one_ranged)
      (let e = minus_count a b in let f = length-append (minus a b) (alone (NumberTerm (pos 1))) in omega arith)

  no_sum_fits : SumFits schema scope []
  no_sum_fits = sum_fits schema scope [] tt (omega arith)

widest_grows : (s : Size) (ss : List Size) → s.widest ≤ (fold beside s ss).widest
widest_grows s [] = omega arith
widest_grows s (x ∷ ss) = let h = widest_grows (beside s x) ss in omega arith

abbrev HasKind : Option Kind → Type 0
HasKind k = (x : Kind) × (k ≡ Some x)

wholes_have : (ks : List (Option Kind)) (ws : List Range) → Pairs IsWhole ks ws → AllOf HasKind ks
wholes_have [] ws h = tt
wholes_have (k ∷ ks) [] h = absurd h
wholes_have (k ∷ ks) (w ∷ ws) h = ((Whole w, h.0), wholes_have ks ws h.1)

members_have : (is : List ℕ) (ks : List (Option Kind)) → are_members is ks ≡ true → AllOf HasKind ks
members_have is [] e = tt
members_have [] (k ∷ ks) e = cc
members_have (i ∷ is) (None ∷ ks) e = cc
members_have (i ∷ is) (Some (Whole w) ∷ ks) e = cc
members_have (i ∷ is) (Some (MemberOf j) ∷ ks) e = ((MemberOf j, refl), members_have is ks (and_parts _ (are_members is ks) e).1)

uses_have : (o : Option Family) (ks : List (Option Kind)) (k : Kind) → kind_of_use o ks ≡ Some k → AllOf HasKind ks
uses_have o ks k e = let u = kind_of_use_some o ks k e in members_have u.family.args ks u.members

members_of_one : (k l : Option Kind) → one_index k l ≡ true → HasKind k × HasKind l
members_of_one None l e = cc
members_of_one (Some (Whole w)) l e = cc
members_of_one (Some (MemberOf i)) None e = cc
members_of_one (Some (MemberOf i)) (Some (Whole w)) e = cc
members_of_one (Some (MemberOf i)) (Some (MemberOf j)) e = ((MemberOf i, refl), (MemberOf j, refl))

wholes_of_two : (k l : Option Kind) → both_whole k l ≡ true → HasKind k × HasKind l
wholes_of_two k l e = let h = wholes_from k l e in ((Whole h.left, h.left_is), (Whole h.right, h.right_is))

-- the sides of a comparison have kinds
comparable_have : (c : Comparison) (k l : Option Kind) → are_comparable c k l ≡ true → HasKind k × HasKind l
comparable_have Le k l e = wholes_of_two k l e
comparable_have Lt k l e = wholes_of_two k l e
comparable_have Ge k l e = wholes_of_two k l e
comparable_have Gt k l e = wholes_of_two k l e
comparable_have Eq k l e = wholes_of_two k l e
comparable_have Ne k l e = wholes_of_two k l e
comparable_have Same k l e = members_of_one k l e
comparable_have Other k l e = members_of_one k l e

over_widest : (c : Comparison) (s : Size) → s.widest ≤ (comparison_over c s).widest
over_widest Le s = omega arith
over_widest Lt s = omega arith
over_widest Ge s = omega arith
over_widest Gt s = omega arith
over_widest Eq s = omega arith
over_widest Ne s = omega arith
over_widest Same s = omega arith
over_widest Other s = omega arith

module _ (schema : Schema) where
  -- a comparison that is well typed, with as many addends of its sides as may be
  compared_fits : (c : Comparison) (a b : Term) (scope : List ℕ) → are_comparable c (kind_of schema a scope) (kind_of schema b scope) ≡ true → (comparison_over c (beside (size_of_term a) (size_of_term b))).widest ≤ most_addends
      → ComparisonFits schema (record { comparison = c; left = a; right = b; scope = scope })
  compared_fits Le a b scope e few =
      let h = wholes_from (kind_of schema a scope) (kind_of schema b scope) e in
      record { written = side_fits schema scope a b h (omega arith); negated = side_fits_with_one schema scope b a (swapped _ _ h) (omega arith) }
  compared_fits Lt a b scope e few =
      let h = wholes_from (kind_of schema a scope) (kind_of schema b scope) e in
      record { written = side_fits_with_one schema scope a b h (omega arith); negated = side_fits schema scope b a (swapped _ _ h) (omega arith) }
  compared_fits Ge a b scope e few =
      let h = wholes_from (kind_of schema a scope) (kind_of schema b scope) e in
      record { written = side_fits schema scope b a (swapped _ _ h) (omega arith); negated = side_fits_with_one schema scope a b h (omega arith) }
  compared_fits Gt a b scope e few =
      let h = wholes_from (kind_of schema a scope) (kind_of schema b scope) e in
      record { written = side_fits_with_one schema scope b a (swapped _ _ h) (omega arith); negated = side_fits schema scope a b h (omega arith) }
  compared_fits Eq a b scope e few =
      let h = wholes_from (kind_of schema a scope) (kind_of schema b scope) e in
      record { written = side_fits schema scope a b h (omega arith); negated = side_fits schema scope a b h (omega arith) }
  compared_fits Ne a b scope e few =
      let h = wholes_from (kind_of schema a scope) (kind_of schema b scope) e in
      record { written = side_fits schema scope a b h (omega arith); negated = side_fits schema scope a b h (omega arith) }
  compared_fits Same a b scope e few = record { written = no_sum_fits schema scope; negated = no_sum_fits schema scope }
  compared_fits Other a b scope e few = record { written = no_sum_fits schema scope; negated = no_sum_fits schema scope }

  abbrev Fit : List ComparisonInScope → Type 0
  Fit = AllOf (ComparisonFits schema)

  abbrev OfTerm : Term → Type 0
  OfTerm t = (scope : List ℕ) (k : Kind) → kind_of schema t scope ≡ Some k → (size_of_term t).widest ≤ most_addends → Fit (comparisons_of t scope)

  abbrev OfFormula : Formula → Type 0
  OfFormula p = (scope : List ℕ) → is_typed schema p scope ≡ true → (size_of_formula p).widest ≤ most_addends → Fit (comparisons_in p scope)

  abbrev Part : Type 0
  Part = (t : Term) × OfTerm t

  abbrev FormulaPart : Type 0
  FormulaPart = (p : Formula) × OfFormula p

  abbrev terms : List Part → List Term
  terms = map (λ (p : Part). p.0)

  abbrev formulas : List FormulaPart → List Formula
  formulas = map (λ (p : FormulaPart). p.0)

  abbrev kinds : List Part → List ℕ → List (Option Kind)
  kinds parts scope = at_each scope (map (kind_of schema) (terms parts))

  abbrev InTerm : Type 0
  InTerm = Term × (List ℕ → List ComparisonInScope)

  abbrev InFormula : Type 0
  InFormula = Formula × (List ℕ → List ComparisonInScope)

  each_term : (parts : List Part) (scope : List ℕ) (s : Size) → AllOf HasKind (kinds parts scope) → (fold beside s (map size_of_term (terms parts))).widest ≤ most_addends
      → Fit (compared_in_each (map (λ (t : Term). (t, comparisons_of t)) (terms parts)) scope)
  each_term [] scope s h few = tt
  each_term (p ∷ parts) scope s h few =
      let grows = widest_grows (beside s (size_of_term p.0)) (map size_of_term (terms parts)) in
      all_append (ComparisonFits schema) (comparisons_of p.0 scope) _ (p.1 scope h.0.0 h.0.1 (omega arith)) (each_term parts scope (beside s (size_of_term p.0)) h.1 few)

  each_formula : (parts : List FormulaPart) (scope : List ℕ) (s : Size) → list_all (λ (p : List ℕ → Bool). p scope) (map (is_typed schema) (formulas parts)) ≡ true → (fold beside s (map size_of_formula (formulas parts))).widest ≤ most_addends
      → Fit (compared_in_each (map (λ (p : Formula). (p, comparisons_in p)) (formulas parts)) scope)
  each_formula [] scope s h few = tt
  each_formula (p ∷ parts) scope s h few =
      let grows = widest_grows (beside s (size_of_formula p.0)) (map size_of_formula (formulas parts)) in
      let both = and_parts (is_typed schema p.0 scope) (list_all (λ (p : List ℕ → Bool). p scope) (map (is_typed schema) (formulas parts))) h in
      all_append (ComparisonFits schema) (comparisons_in p.0 scope) _ (p.1 scope both.0 (omega arith)) (each_formula parts scope (beside s (size_of_formula p.0)) both.1 few)

  -- the parts of an operation on two whole numbers
  two_terms : (f : Range → Range → Range) (parts : List Part) (scope : List ℕ) (k : Kind) → two_wholes f (kinds parts scope) ≡ Some k → (all_beside (map size_of_term (terms parts))).widest ≤ most_addends
      → Fit (compared_in_each (map (λ (t : Term). (t, comparisons_of t)) (terms parts)) scope)
  two_terms f parts scope k e few =
      let t = two_wholes_some f (kinds parts scope) k e in each_term parts scope no_trees (wholes_have (kinds parts scope) (t.left ∷ t.right ∷ []) t.are) few

  abbrev bare : one.Term-F FormulaPart Part → one.Term-F Formula Term
  bare y = map-Term FormulaPart Part Formula Term (λ p. p.0) (λ p. p.0) y

  abbrev bare_formula : one.Formula-F FormulaPart Part → one.Formula-F Formula Term
  bare_formula y = map-Formula FormulaPart Part Formula Term (λ p. p.0) (λ p. p.0) y

  term_case : (y : one.Term-F FormulaPart Part) (scope : List ℕ) (k : Kind)
      → term_kind schema (map-Term Formula Term (List ℕ → Bool) (List ℕ → Option Kind) (is_typed schema) (kind_of schema) (bare y)) scope ≡ Some k
      → (term_size (map-Term Formula Term Size Size size_of_formula size_of_term (bare y))).widest ≤ most_addends
      → Fit (term_comparisons (map-Term Formula Term InFormula InTerm (λ p. (p, comparisons_in p)) (λ t. (t, comparisons_of t)) (bare y)) scope)
  term_case (one.Number n) scope k e few = tt
  term_case (one.Var i) scope k e few = tt
  term_case (one.Given f args) scope k e few = each_term args scope no_trees (uses_have _ (kinds args scope) k e) few
  term_case (one.Choice x args) scope k e few = each_term args scope no_trees (uses_have _ (kinds args scope) k e) few
  term_case (one.Add parts) scope k e few =
      let all = then_some (λ ws. whole_within (total_range ws)) (ranges (kinds parts scope)) k (if_some _ _ k e).1 in
      each_term parts scope no_trees (wholes_have (kinds parts scope) all.0 (ranges_some (kinds parts scope) all.0 all.1)) few
  term_case (one.Sub parts) scope k e few = two_terms difference_range parts scope k e few
  term_case (one.Mul parts) scope k e few = two_terms product_range parts scope k e few
  term_case (one.Min parts) scope k e few = two_terms least_range parts scope k e few
  term_case (one.Max parts) scope k e few = two_terms greatest_range parts scope k e few
  term_case (one.Sum i p a) scope k e few =
      let inner = scope ++ i ∷ [] in
      let bound = if_some (may_bind schema scope (i ∷ []) && is_typed schema p.0 inner) _ k e in
      let of = then_some (λ v. whole_within (sum_over_range v)) (option_and_then whole_of (kind_of schema a.0 inner)) k bound.1 in
      all_append (ComparisonFits schema) (comparisons_in p.0 inner) (comparisons_of a.0 inner)
      (p.1 inner (and_parts (may_bind schema scope (i ∷ [])) (is_typed schema p.0 inner) bound.0).1 (omega arith))
      (a.1 inner (Whole of.0) (whole_of_some (kind_of schema a.0 inner) of.0 of.1) (omega arith))

  formula_case : (y : one.Formula-F FormulaPart Part) (scope : List ℕ)
      → formula_typed schema (map-Formula Formula Term (List ℕ → Bool) (List ℕ → Option Kind) (is_typed schema) (kind_of schema) (bare_formula y)) scope ≡ true
      → (formula_size (map-Formula Formula Term Size Size size_of_formula size_of_term (bare_formula y))).widest ≤ most_addends
      → Fit (formula_comparisons (map-Formula Formula Term InFormula InTerm (λ p. (p, comparisons_in p)) (λ t. (t, comparisons_of t)) (bare_formula y)) scope)
  formula_case (one.Compare c a b) scope e few =
      let h = comparable_have c (kind_of schema a.0 scope) (kind_of schema b.0 scope) e in
      let inner = over_widest c (beside (size_of_term a.0) (size_of_term b.0)) in (
        compared_fits c a.0 b.0 scope e few,
        all_append (ComparisonFits schema) (comparisons_of a.0 scope) (comparisons_of b.0 scope)
            (a.1 scope h.0.0 h.0.1 (omega arith)) (b.1 scope h.1.0 h.1.1 (omega arith)),
      )
  formula_case (one.And parts) scope e few = each_formula parts scope no_trees (and_parts (nat_le 2 _) _ e).1 few
  formula_case (one.Or parts) scope e few = each_formula parts scope no_trees (and_parts (nat_le 2 _) _ e).1 few
  formula_case (one.Not p) scope e few = p.1 scope e few
  formula_case (one.Implies p q) scope e few =
      let both = and_parts (is_typed schema p.0 scope) (is_typed schema q.0 scope) e in
      all_append (ComparisonFits schema) (comparisons_in p.0 scope) (comparisons_in q.0 scope) (p.1 scope both.0 (omega arith)) (q.1 scope both.1 (omega arith))
  formula_case (one.Forall indexes p) scope e few = p.1 (scope ++ indexes) (and_parts (may_bind schema scope indexes) (is_typed schema p.0 (scope ++ indexes)) e).1 few
  formula_case (one.Exists indexes p) scope e few = p.1 (scope ++ indexes) (and_parts (may_bind schema scope indexes) (is_typed schema p.0 (scope ++ indexes)) e).1 few

  term_all : (y : one.Term-F FormulaPart Part) → OfTerm (roll-Term (bare y))
  term_all y scope k e few =
      rw (comparisons_of-roll (bare y))
      (term_case y scope k (subst (λ (f : List ℕ → Option Kind). f scope ≡ Some k) (kind_of-roll schema (bare y)) e) (subst (λ (s : Size). s.widest ≤ most_addends) (size_of_term-roll (bare y)) few))

  formula_all : (y : one.Formula-F FormulaPart Part) → OfFormula (roll-Formula (bare_formula y))
  formula_all y scope e few =
      rw (comparisons_in-roll (bare_formula y))
      (formula_case y scope (subst (λ (f : List ℕ → Bool). f scope ≡ true) (is_typed-roll schema (bare_formula y)) e) (subst (λ (s : Size). s.widest ≤ most_addends) (size_of_formula-roll (bare_formula y)) few))

  comparisons_fit : (p : Formula) → OfFormula p
  comparisons_fit p = ind-Formula OfFormula OfTerm (λ x y e. subst (λ z. OfFormula (roll-Formula z)) e (formula_all y)) (λ x y e. subst (λ z. OfTerm (roll-Term z)) e (term_all y)) p

  formula_fits : (p : Formula) → is_formula schema p ≡ true → Fit (comparisons_in p [])
  unfolding is_formula
  formula_fits p h =
      let small = and_parts (is_typed schema p [] && has_short_prefixes p 0) (keeps_limits (size_of_formula p)) h in
      let typed = and_parts (is_typed schema p []) (has_short_prefixes p 0) small.0 in
      let wide = and_parts (nat_le (size_of_formula p).trees most_trees && nat_le (size_of_formula p).depth most_depth) (nat_le (size_of_formula p).widest most_addends) small.1 in
      comparisons_fit p [] typed.0 (nat_le_yes _ _ wide.1)

  formulas_fit : (formulas : List (List ℕ × Formula)) → list_all (λ f. is_formula schema f.1) formulas ≡ true → AllOf (λ p. Fit (comparisons_in p [])) (map (λ f. f.1) formulas)
  formulas_fit [] h = tt
  formulas_fit (f ∷ formulas) h =
      let both = and_parts (is_formula schema f.1) (list_all (λ f. is_formula schema f.1) formulas) h in
      (formula_fits f.1 both.0, formulas_fit formulas both.1)

pub partial_sums_fit : PartialSumsFit
partial_sums_fit spec = formulas_fit spec.schema spec.formulas (spec_facts spec).formulas

added_ranged : (schema : Schema) (scope : List ℕ) (parts : List Term) (ws : List Range) → Pairs IsWhole (map (λ t. kind_of schema t scope) parts) ws → AllOf (HasRange schema scope) (map added parts)
added_ranged schema scope [] ws h = tt
added_ranged schema scope (t ∷ parts) [] h = absurd h
added_ranged schema scope (t ∷ parts) (w ∷ ws) h = (ranged_whole schema t scope w h.0, added_ranged schema scope parts ws h.1)

-- the parts of a `+` that is well typed
pub part_sums_fit : PartSumsFit
part_sums_fit schema scope parts k e =
    let kinds = map (λ t. kind_of schema t scope) parts in
    let counted = if_some (nat_le 2 (length parts) && nat_le (length parts) most_parts) (option_and_then (λ ws. whole_within (total_range ws)) (ranges kinds)) k (sym (kind_of-Add schema scope parts) ∙ e) in
    let few = nat_le_yes (length parts) most_parts (and_parts (nat_le 2 (length parts)) (nat_le (length parts) most_parts) counted.0).1 in
    let all = then_some (λ ws. whole_within (total_range ws)) (ranges kinds) k counted.1 in
    let same = length-map parts added in
    sum_fits schema scope (map added parts) (added_ranged schema scope parts all.0 (ranges_some kinds all.0 all.1)) (omega arith)
