-- Each instruction of the code of what is well typed is well formed.
use Rattle.std.proofs.Common.{◌≡◌, ℕ, suc, ◌+◌, ◌<◌, ◌≤◌, List, [], ◌∷◌, ◌++◌, length, map, Option, Some, Bool, true, false, cond, ◌&&◌, refl, subst, ◌∙◌, arith, nat_le, slice_get, length-append}
use Rattle.std.specs.Prelude.{pos, nat_lt, option_and_then}
use Rattle.std.specs.List.{list_all}
use Rattle.std.proofs.lemmas.Bool.{and_parts, and_from}
use Rattle.std.proofs.lemmas.List.Folds.{list_all-append}
use Rattle.std.proofs.lemmas.Option.{slice_get_within}
use Rattle.kts_base.specs.Limits.{most_parts, most_variables}
use Rattle.kts_base.proofs.Orders.{yes_nat_lt}
use Rattle.kts_code.specs.declared.instructions.Instr.{Instr}
use Rattle.kts_code.specs.declared.instructions.Instr.TheVariants as i
use Rattle.kts_code.specs.WellFormed.{is_instr, is_register, is_index}
use Rattle.kts_spec.specs.declared.schema.Schema.{Schema}
use Rattle.kts_spec.specs.declared.tree.Comparison.{Comparison}
use Rattle.kts_spec.specs.declared.tree.Comparison.TheVariants.{Le, Lt, Ge, Gt, Eq, Ne, Same, Other}
use Rattle.kts_spec.specs.declared.tree.Term.{Term, roll-Term}
use Rattle.kts_spec.specs.declared.tree.Formula.{Formula, roll-Formula}
use Rattle.kts_spec.specs.declared.tree.Formula.TheOpen as one
use Rattle.kts_spec.specs.declared.tree.Formula.TheFolds.{ind-Term, ind-Formula, map-Term, map-Formula}
use Rattle.kts_spec.specs.Domain.{at_each}
use Rattle.kts_spec.specs.Ranges.{Range, one_number, total_range, difference_range, product_range, least_range, greatest_range, sum_over_range}
use Rattle.kts_spec.specs.Related.{Pairs}
use Rattle.kts_spec.specs.Typing.{Kind, Whole, MemberOf, whole_of, whole_within, ranges, are_members, may_bind, kind_of, is_typed, term_kind, formula_typed}
use Rattle.kts_spec.proofs.KindParts.{if_some, then_some, map_some, IsWhole, whole_of_some, whole_within_some, ranges_some, TwoWholes, two_wholes_some, kind_of_use_some}
use Rattle.kts_spec.proofs.Rolls.{kind_of-roll, is_typed-roll}
use Rattle.kts_emit.specs.Fragments.{Fragment, sequence, operation, chain_rest, chain, loop, begun, nested_loops}
use Rattle.kts_emit.specs.Codes.{negated, is_turned, test_code, comparison_code, term_step, formula_step, term_code, formula_code}
use Rattle.kts_emit.specs.WellFormedCode.{CodeIsWellFormed}
use Rattle.kts_emit.proofs.CodeLevels.{term_code-roll, formula_code-roll}
use Rattle.kts_emit.proofs.ShortCode.{sides_typed}
use Rattle.kts_emit.proofs.TypedParts.{first_member, bind_fits}

module _ (schema : Schema) (places : ℕ) where
  abbrev pub are_formed : List Instr → Bool
  are_formed = list_all (is_instr schema places)

  pub both_formed : (a b : List Instr) → are_formed a ≡ true → are_formed b ≡ true → are_formed (a ++ b) ≡ true
  both_formed a b h k = list_all-append (is_instr schema places) a b ∙ and_from (are_formed a) (are_formed b) h k

  -- well formed with so many variables in scope, wherever some place is behind it
  pub record Formed (code : Fragment) (vars : ℕ) : Type 0 where
    pub is : (place : ℕ) → place + length (code place vars) < places → are_formed (code place vars) ≡ true

  abbrev pub AllFormed : List Fragment → ℕ → Type 0
  AllFormed [] vars = Unit {0}
  AllFormed (code ∷ codes) vars = Formed code vars × AllFormed codes vars

  -- ---- fragments

  pub sequence_formed : (codes : List Fragment) (vars place : ℕ) → AllFormed codes vars → place + length (sequence codes place vars) < places
      → are_formed (sequence codes place vars) ≡ true
  sequence_formed [] vars place h less = refl
  sequence_formed (code ∷ codes) vars place h less =
      let c = code place vars in
      let rest = sequence codes (place + length c) vars in
      both_formed c rest (h.0.is place (omega (arith, length-append c rest)))
      (sequence_formed codes vars (place + length c) h.1 (omega (arith, length-append c rest)))

  pub operation_formed : (codes : List Fragment) (last : List Instr) (vars : ℕ) → AllFormed codes vars → are_formed last ≡ true
      → Formed (operation codes last) vars
  operation_formed codes last vars h l = record {
    is = λ place less.
        let c = sequence codes place vars in
        both_formed c last (sequence_formed codes vars place h (omega (arith, length-append c last))) l;
  }

  pub chain_rest_formed : (join : Instr) (codes : List Fragment) (vars place : ℕ) → is_instr schema places join ≡ true → AllFormed codes vars
      → place + length (chain_rest join codes place vars) < places → are_formed (chain_rest join codes place vars) ≡ true
  chain_rest_formed join [] vars place s h less = refl
  chain_rest_formed join (code ∷ codes) vars place s h less =
      let c = code place vars in
      let rest = chain_rest join codes (place + length c + 1) vars in
      both_formed c (join ∷ rest) (h.0.is place (omega (arith, length-append c (join ∷ rest))))
      (and_from (is_instr schema places join) (are_formed rest) s
      (chain_rest_formed join codes vars (place + length c + 1) s h.1 (omega (arith, length-append c (join ∷ rest)))))

  pub chain_formed : (join : Instr) (codes : List Fragment) (vars : ℕ) → is_instr schema places join ≡ true → AllFormed codes vars
      → Formed (chain join codes) vars
  chain_formed join [] vars s h = record { is = λ place less. refl }
  chain_formed join (code ∷ codes) vars s h = record {
    is = λ place less.
        let c = code place vars in
        let rest = chain_rest join codes (place + length c) vars in
        both_formed c rest (h.0.is place (omega (arith, length-append c rest)))
        (chain_rest_formed join codes vars (place + length c) s h.1 (omega (arith, length-append c rest)));
  }

  loop_formed : (start : Instr) (index : ℕ) (body : Fragment) (vars : ℕ) → is_instr schema places start ≡ true → vars < most_variables
      → is_index schema index ≡ true → Formed body (suc vars) → Formed (begun start (loop index body)) vars
  loop_formed start index body vars s few there h = record {
    is = λ place less.
        let inner : ℕ = place + 1 + 1 in
        let c = body inner (suc vars) in
        let last = i.Next vars inner ∷ [] in
        let end : ℕ = inner + length c + 1 in
        let register = yes_nat_lt vars most_variables few in
        let ends = yes_nat_lt end places (omega (arith, length-append c last)) in
        let turns = yes_nat_lt inner places (omega (arith, length-append c last)) in
        let named = and_from (is_register vars) (is_index schema index) register there in
        let first = and_from (is_register vars && is_index schema index) (nat_lt end places) named ends in
        let next = and_from (is_register vars) (nat_lt inner places) register turns in
        and_from (is_instr schema places start) _ s
        (and_from (is_register vars && is_index schema index && nat_lt end places) _ first
        (both_formed c last (h.is inner (omega (arith, length-append c last))) (and_from (is_register vars && nat_lt inner places) true next refl)));
  }

  pub formed_at : (code : Fragment) (m n : ℕ) → m ≡ n → Formed code m → Formed code n
  formed_at code m n e h = subst (Formed code) e h

  pub nested_formed : (start join : Instr) (indexes : List ℕ) (body : Fragment) (vars : ℕ) → is_instr schema places start ≡ true
      → is_instr schema places join ≡ true → list_all (is_index schema) indexes ≡ true → vars + length indexes ≤ most_variables
      → Formed body (vars + length indexes) → Formed (nested_loops start join indexes body) vars
  nested_formed start join [] body vars s o all few h = formed_at body (vars + 0) vars (omega arith) h
  nested_formed start join (index ∷ indexes) body vars s o all few h =
      let both = and_parts (is_index schema index) (list_all (is_index schema) indexes) all in
      let moved = formed_at body (vars + length (index ∷ indexes)) (suc vars + length indexes) (omega arith) h in
      let inner = nested_formed start join indexes body (suc vars) s o both.1 (omega arith) moved in
      let last = and_from (is_instr schema places join) true o refl in
      loop_formed start index (operation (nested_loops start join indexes body ∷ []) (join ∷ [])) vars s (omega arith) both.0
      (operation_formed (nested_loops start join indexes body ∷ []) (join ∷ []) (suc vars) (inner, tt) last)

  test_formed : (o : Comparison) → are_formed (test_code o) ≡ true
  test_formed Le = refl
  test_formed Lt = refl
  test_formed Ge = refl
  test_formed Gt = refl
  test_formed Eq = refl
  test_formed Ne = refl
  test_formed Same = refl
  test_formed Other = refl

  comparison_formed : (o : Comparison) (a b : Fragment) (vars : ℕ) → Formed a vars → Formed b vars → Formed (comparison_code o a b) vars
  comparison_formed o a b vars h k = by_turn (is_turned o)
    where
      by_turn : (turned : Bool) → Formed (operation (cond turned (b ∷ a ∷ []) (a ∷ b ∷ [])) (test_code o)) vars
      by_turn true = operation_formed (b ∷ a ∷ []) (test_code o) vars (k, (h, tt)) (test_formed o)
      by_turn false = operation_formed (a ∷ b ∷ []) (test_code o) vars (h, (k, tt)) (test_formed o)

  -- ---- the language

  abbrev pub OfTerm : Term → Type 0
  OfTerm t = (scope : List ℕ) (k : Kind) → length scope ≤ most_variables → kind_of schema t scope ≡ Some k → Formed (term_code t) (length scope)

  abbrev pub OfFormula : Formula → Type 0
  OfFormula p = (scope : List ℕ) → length scope ≤ most_variables → is_typed schema p scope ≡ true → Formed (formula_code p) (length scope)

  abbrev Part : Type 0
  Part = (t : Term) × OfTerm t

  abbrev FormulaPart : Type 0
  FormulaPart = (p : Formula) × OfFormula p

  abbrev bare : one.Term-F FormulaPart Part → one.Term-F Formula Term
  bare y = map-Term FormulaPart Part Formula Term (λ p. p.0) (λ p. p.0) y

  abbrev bare_formula : one.Formula-F FormulaPart Part → one.Formula-F Formula Term
  bare_formula y = map-Formula FormulaPart Part Formula Term (λ p. p.0) (λ p. p.0) y

  abbrev terms : List Part → List Term
  terms = map (λ (p : Part). p.0)

  abbrev formulas : List FormulaPart → List Formula
  formulas = map (λ (p : FormulaPart). p.0)

  abbrev kinds : List Part → List ℕ → List (Option Kind)
  kinds parts scope = at_each scope (map (kind_of schema) (terms parts))

  members_formed : (parts : List Part) (is scope : List ℕ) → length scope ≤ most_variables → are_members is (kinds parts scope) ≡ true
      → AllFormed (map term_code (terms parts)) (length scope)
  members_formed [] is scope few e = tt
  members_formed (p ∷ parts) [] scope few e = cc
  members_formed (p ∷ parts) (index ∷ is) scope few e =
      let m = first_member index is (kind_of schema p.0 scope) (kinds parts scope) e in
      (p.1 scope (MemberOf index) few m.first, members_formed parts is scope few m.others)

  wholes_formed : (parts : List Part) (ws : List Range) (scope : List ℕ) → length scope ≤ most_variables → Pairs IsWhole (kinds parts scope) ws
      → AllFormed (map term_code (terms parts)) (length scope)
  wholes_formed [] ws scope few h = tt
  wholes_formed (p ∷ parts) [] scope few h = absurd h
  wholes_formed (p ∷ parts) (v ∷ ws) scope few h = (p.1 scope (Whole v) few h.0, wholes_formed parts ws scope few h.1)

  formulas_formed : (parts : List FormulaPart) (scope : List ℕ) → length scope ≤ most_variables
      → list_all (λ p. p scope) (map (is_typed schema) (formulas parts)) ≡ true → AllFormed (map formula_code (formulas parts)) (length scope)
  formulas_formed [] scope few e = tt
  formulas_formed (p ∷ parts) scope few e =
      let both = and_parts (is_typed schema p.0 scope) _ e in
      (p.1 scope few both.0, formulas_formed parts scope few both.1)

  abbrev kind_at : one.Term-F FormulaPart Part → List ℕ → Option Kind
  kind_at y = term_kind schema (map-Term Formula Term (List ℕ → Bool) (List ℕ → Option Kind) (is_typed schema) (kind_of schema) (bare y))

  abbrev typed_at : one.Formula-F FormulaPart Part → List ℕ → Bool
  typed_at y = formula_typed schema (map-Formula Formula Term (List ℕ → Bool) (List ℕ → Option Kind) (is_typed schema) (kind_of schema) (bare_formula y))

  -- two whole numbers and an instruction
  two_formed : (join : Instr) (f : Range → Range → Range) (parts : List Part) (scope : List ℕ) (k : Kind) → length scope ≤ most_variables
      → is_instr schema places join ≡ true → TwoWholes f (kinds parts scope) k
      → Formed (operation (map term_code (terms parts)) (join ∷ [])) (length scope)
  two_formed join f parts scope k few s t =
      operation_formed (map term_code (terms parts)) (join ∷ []) (length scope) (wholes_formed parts (t.left ∷ t.right ∷ []) scope few t.are)
      (and_from (is_instr schema places join) true s refl)

  -- binders name indexes
  bound_indexes : (scope indexes : List ℕ) → may_bind schema scope indexes ≡ true → list_all (is_index schema) indexes ≡ true
  bound_indexes scope indexes e =
      let p = and_parts (nat_le 1 (length indexes) && list_all (is_index schema) indexes) (nat_le (length scope + length indexes) most_variables) e in
      (and_parts (nat_le 1 (length indexes)) (list_all (is_index schema) indexes) p.0).1

  term_case : (y : one.Term-F FormulaPart Part) (scope : List ℕ) (k : Kind) → length scope ≤ most_variables → kind_at y scope ≡ Some k
      → Formed (term_step (map-Term Formula Term Fragment Fragment formula_code term_code (bare y))) (length scope)
  term_case (one.Number n) scope k few e =
      let w = whole_within_some (one_number n) k e in
      operation_formed [] (i.Num n ∷ []) (length scope) tt (and_from (is_instr schema places (i.Num n)) true w.bounded refl)
  term_case (one.Var j) scope k few e =
      let there = map_some MemberOf (slice_get scope j) k e in
      let within = slice_get_within scope j there.0 there.1 in
      operation_formed [] (i.Var j ∷ []) (length scope) tt (and_from (is_register j) true (yes_nat_lt j most_variables (omega arith)) refl)
  term_case (one.Given f args) scope k few e =
      let u = kind_of_use_some (slice_get schema.givens f) (kinds args scope) k e in
      let there = yes_nat_lt f (length schema.givens) (slice_get_within schema.givens f u.family u.there) in
      operation_formed (map term_code (terms args)) (i.Given f ∷ []) (length scope) (members_formed args u.family.args scope few u.members)
      (and_from (nat_lt f (length schema.givens)) true there refl)
  term_case (one.Choice x args) scope k few e =
      let u = kind_of_use_some (slice_get schema.choices x) (kinds args scope) k e in
      let there = yes_nat_lt x (length schema.choices) (slice_get_within schema.choices x u.family u.there) in
      operation_formed (map term_code (terms args)) (i.Choice x ∷ []) (length scope) (members_formed args u.family.args scope few u.members)
      (and_from (nat_lt x (length schema.choices)) true there refl)
  term_case (one.Add parts) scope k few e =
      let many = length (map (kind_of schema) (terms parts)) in
      let both = if_some (nat_le 2 many && nat_le many most_parts) _ k e in
      let all = then_some (λ ws. whole_within (total_range ws)) (ranges (kinds parts scope)) k both.1 in
      let known = ranges_some (kinds parts scope) all.0 all.1 in
      chain_formed i.Add (map term_code (terms parts)) (length scope) refl (wholes_formed parts all.0 scope few known)
  term_case (one.Sub parts) scope k few e = two_formed i.Sub difference_range parts scope k few refl (two_wholes_some difference_range (kinds parts scope) k e)
  term_case (one.Mul parts) scope k few e = two_formed i.Mul product_range parts scope k few refl (two_wholes_some product_range (kinds parts scope) k e)
  term_case (one.Min parts) scope k few e = two_formed i.Min least_range parts scope k few refl (two_wholes_some least_range (kinds parts scope) k e)
  term_case (one.Max parts) scope k few e = two_formed i.Max greatest_range parts scope k few refl (two_wholes_some greatest_range (kinds parts scope) k e)
  term_case (one.Sum index p a) scope k few e =
      let inner = scope ++ index ∷ [] in
      let both = if_some (may_bind schema scope (index ∷ []) && is_typed schema p.0 inner) _ k e in
      let tests = and_parts (may_bind schema scope (index ∷ [])) (is_typed schema p.0 inner) both.0 in
      let of = then_some (λ v. whole_within (sum_over_range v)) (option_and_then whole_of (kind_of schema a.0 inner)) k both.1 in
      let known = whole_of_some (kind_of schema a.0 inner) of.0 of.1 in
      let fits = bind_fits schema scope (index ∷ []) tests.0 in
      let named = bound_indexes scope (index ∷ []) tests.0 in
      let there = (and_parts (is_index schema index) true named).0 in
      let one_more : length inner ≡ suc (length scope) = omega (arith, length-append scope (index ∷ [])) in
      let first = formed_at (formula_code p.0) (length inner) (suc (length scope)) one_more (p.1 inner (omega arith) tests.1) in
      let second = formed_at (term_code a.0) (length inner) (suc (length scope)) one_more (a.1 inner (Whole of.0) (omega arith) known) in
      loop_formed (i.Num (pos 0)) index (operation (formula_code p.0 ∷ term_code a.0 ∷ []) (i.Gate ∷ (i.Add ∷ []))) (length scope) refl (omega arith) there
      (operation_formed (formula_code p.0 ∷ term_code a.0 ∷ []) (i.Gate ∷ (i.Add ∷ [])) (suc (length scope)) (first, (second, tt)) refl)

  -- a formula under binders
  bound_formed : (start join : Instr) (indexes : List ℕ) (p : FormulaPart) (scope : List ℕ) → length scope ≤ most_variables
      → is_instr schema places start ≡ true → is_instr schema places join ≡ true
      → (may_bind schema scope indexes && is_typed schema p.0 (scope ++ indexes)) ≡ true
      → Formed (nested_loops start join indexes (formula_code p.0)) (length scope)
  bound_formed start join indexes p scope few s o e =
      let tests = and_parts (may_bind schema scope indexes) (is_typed schema p.0 (scope ++ indexes)) e in
      let fits = bind_fits schema scope indexes tests.0 in
      let all = bound_indexes scope indexes tests.0 in
      let more : length (scope ++ indexes) ≡ length scope + length indexes = length-append scope indexes in
      let body = p.1 (scope ++ indexes) (omega arith) tests.1 in
      let inner = formed_at (formula_code p.0) (length (scope ++ indexes)) (length scope + length indexes) more body in
      nested_formed start join indexes (formula_code p.0) (length scope) s o all fits inner

  -- several formulas that are joined
  joined_formed : (join : Instr) (parts : List FormulaPart) (scope : List ℕ) → length scope ≤ most_variables → is_instr schema places join ≡ true
      → (nat_le 2 (length (map (is_typed schema) (formulas parts))) && list_all (λ p. p scope) (map (is_typed schema) (formulas parts))) ≡ true
      → Formed (chain join (map formula_code (formulas parts))) (length scope)
  joined_formed join parts scope few s e =
      let tests = and_parts (nat_le 2 (length (map (is_typed schema) (formulas parts)))) _ e in
      chain_formed join (map formula_code (formulas parts)) (length scope) s (formulas_formed parts scope few tests.1)

  negated_formed : (p : FormulaPart) (scope : List ℕ) → length scope ≤ most_variables → is_typed schema p.0 scope ≡ true
      → Formed (negated (formula_code p.0)) (length scope)
  negated_formed p scope few e = operation_formed (formula_code p.0 ∷ []) (i.Not ∷ []) (length scope) (p.1 scope few e, tt) refl

  formula_case : (y : one.Formula-F FormulaPart Part) (scope : List ℕ) → length scope ≤ most_variables → typed_at y scope ≡ true
      → Formed (formula_step (map-Formula Formula Term Fragment Fragment formula_code term_code (bare_formula y))) (length scope)
  formula_case (one.Compare o a b) scope few e =
      let s = sides_typed o (kind_of schema a.0 scope) (kind_of schema b.0 scope) e in
      comparison_formed o (term_code a.0) (term_code b.0) (length scope) (a.1 scope s.left few s.left_is) (b.1 scope s.right few s.right_is)
  formula_case (one.And parts) scope few e = joined_formed i.And parts scope few refl e
  formula_case (one.Or parts) scope few e = joined_formed i.Or parts scope few refl e
  formula_case (one.Not p) scope few e = negated_formed p scope few e
  formula_case (one.Implies p q) scope few e =
      let tests = and_parts (is_typed schema p.0 scope) (is_typed schema q.0 scope) e in
      operation_formed (negated (formula_code p.0) ∷ formula_code q.0 ∷ []) (i.Or ∷ []) (length scope)
      (negated_formed p scope few tests.0, (q.1 scope few tests.1, tt)) refl
  formula_case (one.Forall indexes p) scope few e = bound_formed i.True i.And indexes p scope few refl refl e
  formula_case (one.Exists indexes p) scope few e = bound_formed i.False i.Or indexes p scope few refl refl e

  term_all : (y : one.Term-F FormulaPart Part) → OfTerm (roll-Term (bare y))
  term_all y scope k few e =
      let kind_is = subst (λ (f : List ℕ → Option Kind). f scope ≡ Some k) (kind_of-roll schema (bare y)) e in
      rw (term_code-roll (bare y)) (term_case y scope k few kind_is)

  formula_all : (y : one.Formula-F FormulaPart Part) → OfFormula (roll-Formula (bare_formula y))
  formula_all y scope few e =
      let typed_is = subst (λ (f : List ℕ → Bool). f scope ≡ true) (is_typed-roll schema (bare_formula y)) e in
      rw (formula_code-roll (bare_formula y)) (formula_case y scope few typed_is)

  pub term_formed : (t : Term) → OfTerm t
  term_formed t = ind-Term OfFormula OfTerm (λ x y e. subst (λ z. OfFormula (roll-Formula z)) e (formula_all y))
      (λ x y e. subst (λ z. OfTerm (roll-Term z)) e (term_all y)) t

  pub formula_formed : (p : Formula) → OfFormula p
  formula_formed p = ind-Formula OfFormula OfTerm (λ x y e. subst (λ z. OfFormula (roll-Formula z)) e (formula_all y))
      (λ x y e. subst (λ z. OfTerm (roll-Term z)) e (term_all y)) p

  pub term_is : (t : Term) (scope : List ℕ) (k : Kind) (place : ℕ) → length scope ≤ most_variables → kind_of schema t scope ≡ Some k
      → place + length (term_code t place (length scope)) < places → are_formed (term_code t place (length scope)) ≡ true
  term_is t scope k place few e less = (term_formed t scope k few e).is place less

  pub formula_is : (p : Formula) (scope : List ℕ) (place : ℕ) → length scope ≤ most_variables → is_typed schema p scope ≡ true
      → place + length (formula_code p place (length scope)) < places → are_formed (formula_code p place (length scope)) ≡ true
  formula_is p scope place few e less = (formula_formed p scope few e).is place less

pub code_is_well_formed : CodeIsWellFormed
code_is_well_formed = record {
  term = λ schema t scope k place places few e less. term_is schema places t scope k place few e less;
  formula = λ schema p scope place places few e less. formula_is schema places p scope place few e less;
}
