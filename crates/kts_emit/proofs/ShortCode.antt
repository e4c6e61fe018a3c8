-- The code of what is well typed is no longer than its trees allow.
use Rattle.std.proofs.Common.{◌≡◌, ℕ, suc, ◌+◌, ◌*◌, ◌<◌, ◌≤◌, List, [], ◌∷◌, ◌++◌, length, map, fold, Option, Some, Bool, true, ◌&&◌, refl, subst, arith, nat_le, slice_get}
use Rattle.std.specs.Prelude.{option_and_then}
use Rattle.std.specs.List.{list_all}
use Rattle.std.proofs.lemmas.Bool.{and_parts}
use Rattle.kts_base.specs.Limits.{most_parts}
use Rattle.kts_spec.specs.declared.schema.Schema.{Schema}
use Rattle.kts_spec.specs.declared.tree.Comparison.{Comparison}
use Rattle.kts_spec.specs.declared.tree.Comparison.TheVariants.{Le, Lt, Ge, Gt, Eq, Ne, Same, Other}
use Rattle.kts_spec.specs.declared.tree.Term.{Term, roll-Term}
use Rattle.kts_spec.specs.declared.tree.Formula.{Formula, roll-Formula}
use Rattle.kts_spec.specs.declared.tree.Formula.TheOpen as one
use Rattle.kts_spec.specs.declared.tree.Formula.TheFolds.{ind-Term, ind-Formula, map-Term, map-Formula}
use Rattle.kts_spec.specs.Domain.{at_each}
use Rattle.kts_spec.specs.Ranges.{Range, total_range, difference_range, product_range, least_range, greatest_range, sum_over_range}
use Rattle.kts_spec.specs.Related.{Pairs}
use Rattle.kts_spec.specs.Sizes.{Size, no_trees, beside, comparison_over, size_of_term, size_of_formula, term_size, formula_size}
use Rattle.kts_spec.specs.Typing.{Kind, Whole, MemberOf, whole_of, whole_within, ranges, are_members, are_comparable, may_bind, kind_of, is_typed, term_kind, formula_typed}
use Rattle.kts_spec.proofs.KindParts.{if_some, then_some, IsWhole, whole_of_some, ranges_some, TwoWholes, two_wholes_some, kind_of_use_some}
use Rattle.kts_spec.proofs.Rolls.{kind_of-roll, is_typed-roll, size_of_term-roll, size_of_formula-roll}
use Rattle.kts_emit.specs.Lengths.{CodeIsShort, most_for_a_tree}
use Rattle.kts_emit.specs.Weights.{once, sequence_weight, chain_rest_weight, chain_weight, nested_weight, test_weight, term_weight, formula_weight, weight_of_term, weight_of_formula}
use Rattle.kts_emit.proofs.CodeLevels.{weight_of_term-roll, weight_of_formula-roll}
use Rattle.kts_emit.proofs.CountedCode.{nested_count}
use Rattle.kts_emit.proofs.TypedParts.{first_member, both_are, one_is, bind_fits}

-- the length of code for a tree of this size
abbrev IsShort : ℕ → Size → Type 0
IsShort n size = n < most_for_a_tree * size.trees

-- of operands, each joined to what is before it
rest_short : (ns : List ℕ) (sizes : List Size) (s : Size) → Pairs IsShort ns sizes
    → chain_rest_weight ns + most_for_a_tree * s.trees ≤ most_for_a_tree * (fold beside s sizes).trees
rest_short [] [] s h = omega arith
rest_short [] (size ∷ sizes) s h = absurd h
rest_short (n ∷ ns) [] s h = absurd h
rest_short (n ∷ ns) (size ∷ sizes) s h = omega (arith, rest_short ns sizes (beside s size) h.1, h.0)

-- others are shorter
sequence_below : (ns : List ℕ) → sequence_weight ns ≤ chain_rest_weight ns
sequence_below [] = omega arith
sequence_below (n ∷ ns) = omega (arith, sequence_below ns)

chain_below : (ns : List ℕ) → chain_weight ns ≤ chain_rest_weight ns
chain_below [] = omega arith
chain_below (n ∷ ns) = omega arith

test_small : (o : Comparison) → test_weight o ≤ 2
test_small Le = omega arith
test_small Lt = omega arith
test_small Ge = omega arith
test_small Gt = omega arith
test_small Eq = omega arith
test_small Ne = omega arith
test_small Same = omega arith
test_small Other = omega arith

comparison_trees : (o : Comparison) (s : Size) → (comparison_over o s).trees ≡ suc s.trees
comparison_trees Le s = refl
comparison_trees Lt s = refl
comparison_trees Ge s = refl
comparison_trees Gt s = refl
comparison_trees Eq s = refl
comparison_trees Ne s = refl
comparison_trees Same s = refl
comparison_trees Other s = refl

-- both sides of a comparison are well typed
pub record SidesTyped (k l : Option Kind) : Type 0 where
  pub left : Kind
  pub right : Kind
  pub left_is : k ≡ Some left
  pub right_is : l ≡ Some right

wholes_typed : (k l : Option Kind) → are_comparable Le k l ≡ true → SidesTyped k l
wholes_typed k l e = let s = both_are k l e in record { left = Whole s.0; right = Whole s.1; left_is = s.2; right_is = s.3 }

members_typed : (k l : Option Kind) → are_comparable Same k l ≡ true → SidesTyped k l
members_typed k l e = let s = one_is k l e in record { left = MemberOf s.0; right = MemberOf s.0; left_is = s.1; right_is = s.2 }

pub sides_typed : (o : Comparison) (k l : Option Kind) → are_comparable o k l ≡ true → SidesTyped k l
sides_typed Le k l e = wholes_typed k l e
sides_typed Lt k l e = wholes_typed k l e
sides_typed Ge k l e = wholes_typed k l e
sides_typed Gt k l e = wholes_typed k l e
sides_typed Eq k l e = wholes_typed k l e
sides_typed Ne k l e = wholes_typed k l e
sides_typed Same k l e = members_typed k l e
sides_typed Other k l e = members_typed k l e

module _ (schema : Schema) where
  abbrev OfTerm : Term → Type 0
  OfTerm t = (scope : List ℕ) (k : Kind) → kind_of schema t scope ≡ Some k → IsShort (weight_of_term once t) (size_of_term t)

  abbrev OfFormula : Formula → Type 0
  OfFormula p = (scope : List ℕ) → is_typed schema p scope ≡ true → IsShort (weight_of_formula once p) (size_of_formula p)

  abbrev Part : Type 0
  Part = (t : Term) × OfTerm t

  abbrev FormulaPart : Type 0
  FormulaPart = (p : Formula) × OfFormula p

  abbrev bare : one.Term-F FormulaPart Part → one.Term-F Formula Term
  bare y = map-Term FormulaPart Part Formula Term (λ p. p.0) (λ p. p.0) y

  abbrev bare_formula : one.Formula-F FormulaPart Part → one.Formula-F Formula Term
  bare_formula y = map-Formula FormulaPart Part Formula Term (λ p. p.0) (λ p. p.0) y

  abbrev terms : List Part → List Term
  terms = map (λ (p : Part). p.0)

  abbrev formulas : List FormulaPart → List Formula
  formulas = map (λ (p : FormulaPart). p.0)

  abbrev kinds : List Part → List ℕ → List (Option Kind)
  kinds parts scope = at_each scope (map (kind_of schema) (terms parts))

  abbrev AreShort : List Part → Type 0
  AreShort parts = Pairs IsShort (map (weight_of_term once) (terms parts)) (map size_of_term (terms parts))

  members_short : (parts : List Part) (is scope : List ℕ) → are_members is (kinds parts scope) ≡ true → AreShort parts
  members_short [] is scope e = tt
  members_short (p ∷ parts) [] scope e = cc
  members_short (p ∷ parts) (i ∷ is) scope e =
      let m = first_member i is (kind_of schema p.0 scope) (kinds parts scope) e in
      (p.1 scope (MemberOf i) m.first, members_short parts is scope m.others)

  wholes_short : (parts : List Part) (ws : List Range) (scope : List ℕ) → Pairs IsWhole (kinds parts scope) ws → AreShort parts
  wholes_short [] ws scope h = tt
  wholes_short (p ∷ parts) [] scope h = absurd h
  wholes_short (p ∷ parts) (v ∷ ws) scope h = (p.1 scope (Whole v) h.0, wholes_short parts ws scope h.1)

  formulas_short : (parts : List FormulaPart) (scope : List ℕ) → list_all (λ p. p scope) (map (is_typed schema) (formulas parts)) ≡ true
      → Pairs IsShort (map (weight_of_formula once) (formulas parts)) (map size_of_formula (formulas parts))
  formulas_short [] scope e = tt
  formulas_short (p ∷ parts) scope e =
      let both = and_parts (is_typed schema p.0 scope) _ e in
      (p.1 scope both.0, formulas_short parts scope both.1)

  -- an operation on short operands
  operation_short : (parts : List Part) → AreShort parts
      → sequence_weight (map (weight_of_term once) (terms parts)) + 1 < most_for_a_tree * suc ((fold beside no_trees (map size_of_term (terms parts))).trees)
  operation_short parts h =
      let ns = map (weight_of_term once) (terms parts) in
      omega (arith, rest_short ns (map size_of_term (terms parts)) no_trees h, sequence_below ns)

  -- short operands that are joined
  chain_short : (ns : List ℕ) (sizes : List Size) → Pairs IsShort ns sizes
      → chain_weight ns < most_for_a_tree * suc ((fold beside no_trees sizes).trees)
  chain_short ns sizes h = omega (arith, rest_short ns sizes no_trees h, chain_below ns)

  abbrev kind_at : one.Term-F FormulaPart Part → List ℕ → Option Kind
  kind_at y = term_kind schema (map-Term Formula Term (List ℕ → Bool) (List ℕ → Option Kind) (is_typed schema) (kind_of schema) (bare y))

  abbrev typed_at : one.Formula-F FormulaPart Part → List ℕ → Bool
  typed_at y = formula_typed schema (map-Formula Formula Term (List ℕ → Bool) (List ℕ → Option Kind) (is_typed schema) (kind_of schema) (bare_formula y))

  abbrev ShortTerm : one.Term-F FormulaPart Part → Type 0
  ShortTerm y =
      IsShort (term_weight once (map-Term Formula Term ℕ ℕ (weight_of_formula once) (weight_of_term once) (bare y)))
      (term_size (map-Term Formula Term Size Size size_of_formula size_of_term (bare y)))

  abbrev ShortFormula : one.Formula-F FormulaPart Part → Type 0
  ShortFormula y =
      IsShort (formula_weight once (map-Formula Formula Term ℕ ℕ (weight_of_formula once) (weight_of_term once) (bare_formula y)))
      (formula_size (map-Formula Formula Term Size Size size_of_formula size_of_term (bare_formula y)))

  -- two whole numbers and an instruction
  two_short : (f : Range → Range → Range) (parts : List Part) (scope : List ℕ) (k : Kind) (t : TwoWholes f (kinds parts scope) k)
      → sequence_weight (map (weight_of_term once) (terms parts)) + 1 < most_for_a_tree * suc ((fold beside no_trees (map size_of_term (terms parts))).trees)
  two_short f parts scope k t = operation_short parts (wholes_short parts (t.left ∷ t.right ∷ []) scope t.are)

  term_case : (y : one.Term-F FormulaPart Part) (scope : List ℕ) (k : Kind) → kind_at y scope ≡ Some k → ShortTerm y
  term_case (one.Number n) scope k e = omega arith
  term_case (one.Var j) scope k e = omega arith
  term_case (one.Given f args) scope k e =
      let u = kind_of_use_some (slice_get schema.givens f) (kinds args scope) k e in
      operation_short args (members_short args u.family.args scope u.members)
  term_case (one.Choice x args) scope k e =
      let u = kind_of_use_some (slice_get schema.choices x) (kinds args scope) k e in
      operation_short args (members_short args u.family.args scope u.members)
  term_case (one.Add parts) scope k e =
      let many = length (map (kind_of schema) (terms parts)) in
      let both = if_some (nat_le 2 many && nat_le many most_parts) _ k e in
      let all = then_some (λ ws. whole_within (total_range ws)) (ranges (kinds parts scope)) k both.1 in
      let known = ranges_some (kinds parts scope) all.0 all.1 in
      chain_short (map (weight_of_term once) (terms parts)) (map size_of_term (terms parts)) (wholes_short parts all.0 scope known)
  term_case (one.Sub parts) scope k e = two_short difference_range parts scope k (two_wholes_some difference_range (kinds parts scope) k e)
  term_case (one.Mul parts) scope k e = two_short product_range parts scope k (two_wholes_some product_range (kinds parts scope) k e)
  term_case (one.Min parts) scope k e = two_short least_range parts scope k (two_wholes_some least_range (kinds parts scope) k e)
  term_case (one.Max parts) scope k e = two_short greatest_range parts scope k (two_wholes_some greatest_range (kinds parts scope) k e)
  term_case (one.Sum i p a) scope k e =
      let inner = scope ++ i ∷ [] in
      let both = if_some (may_bind schema scope (i ∷ []) && is_typed schema p.0 inner) _ k e in
      let tests = and_parts (may_bind schema scope (i ∷ [])) (is_typed schema p.0 inner) both.0 in
      let of = then_some (λ v. whole_within (sum_over_range v)) (option_and_then whole_of (kind_of schema a.0 inner)) k both.1 in
      let known = whole_of_some (kind_of schema a.0 inner) of.0 of.1 in
      omega (arith, p.1 inner tests.1, a.1 inner (Whole of.0) known)

  -- a formula under binders
  bound_short : (indexes : List ℕ) (p : FormulaPart) (scope : List ℕ) → (may_bind schema scope indexes && is_typed schema p.0 (scope ++ indexes)) ≡ true
      → nested_weight once indexes (weight_of_formula once p.0) < most_for_a_tree * suc ((size_of_formula p.0).trees)
  bound_short indexes p scope e =
      let tests = and_parts (may_bind schema scope indexes) (is_typed schema p.0 (scope ++ indexes)) e in
      let fits = bind_fits schema scope indexes tests.0 in
      omega (arith, nested_count indexes (weight_of_formula once p.0), p.1 (scope ++ indexes) tests.1, fits)

  -- several formulas that are joined
  joined_short : (parts : List FormulaPart) (scope : List ℕ)
      → (nat_le 2 (length (map (is_typed schema) (formulas parts))) && list_all (λ p. p scope) (map (is_typed schema) (formulas parts))) ≡ true
      → chain_weight (map (weight_of_formula once) (formulas parts))
      < most_for_a_tree * suc ((fold beside no_trees (map size_of_formula (formulas parts))).trees)
  joined_short parts scope e =
      let tests = and_parts (nat_le 2 (length (map (is_typed schema) (formulas parts)))) _ e in
      chain_short (map (weight_of_formula once) (formulas parts)) (map size_of_formula (formulas parts)) (formulas_short parts scope tests.1)

  formula_case : (y : one.Formula-F FormulaPart Part) (scope : List ℕ) → typed_at y scope ≡ true → ShortFormula y
  formula_case (one.Compare o a b) scope e =
      let s = sides_typed o (kind_of schema a.0 scope) (kind_of schema b.0 scope) e in
      let trees = comparison_trees o (beside (size_of_term a.0) (size_of_term b.0)) in
      omega (arith, trees, test_small o, a.1 scope s.left s.left_is, b.1 scope s.right s.right_is)
  formula_case (one.And parts) scope e = joined_short parts scope e
  formula_case (one.Or parts) scope e = joined_short parts scope e
  formula_case (one.Not p) scope e = omega (arith, p.1 scope e)
  formula_case (one.Implies p q) scope e =
      let tests = and_parts (is_typed schema p.0 scope) (is_typed schema q.0 scope) e in
      omega (arith, p.1 scope tests.0, q.1 scope tests.1)
  formula_case (one.Forall indexes p) scope e = bound_short indexes p scope e
  formula_case (one.Exists indexes p) scope e = bound_short indexes p scope e

  term_all : (y : one.Term-F FormulaPart Part) → OfTerm (roll-Term (bare y))
  term_all y scope k e =
      let kind_is = subst (λ (f : List ℕ → Option Kind). f scope ≡ Some k) (kind_of-roll schema (bare y)) e in
      rw (weight_of_term-roll once (bare y), size_of_term-roll (bare y)) (term_case y scope k kind_is)

  formula_all : (y : one.Formula-F FormulaPart Part) → OfFormula (roll-Formula (bare_formula y))
  formula_all y scope e =
      let typed_is = subst (λ (f : List ℕ → Bool). f scope ≡ true) (is_typed-roll schema (bare_formula y)) e in
      rw (weight_of_formula-roll once (bare_formula y), size_of_formula-roll (bare_formula y)) (formula_case y scope typed_is)

  pub term_short : (t : Term) → OfTerm t
  term_short t =
      ind-Term OfFormula OfTerm (λ x y e. subst (λ z. OfFormula (roll-Formula z)) e (formula_all y))
      (λ x y e. subst (λ z. OfTerm (roll-Term z)) e (term_all y)) t

  pub formula_short : (p : Formula) → OfFormula p
  formula_short p =
      ind-Formula OfFormula OfTerm (λ x y e. subst (λ z. OfFormula (roll-Formula z)) e (formula_all y))
      (λ x y e. subst (λ z. OfTerm (roll-Term z)) e (term_all y)) p

pub code_is_short : CodeIsShort
code_is_short = record { term = λ schema t scope k e. term_short schema t scope k e; formula = λ schema p scope e. formula_short schema p scope e }
