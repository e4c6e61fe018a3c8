-- What a well typed constraint reads are choices that are there; where an argument is a variable of the prefix, it has the index there.
use Rattle.std.proofs.Common.{◌≡◌, ℕ, zero, suc, ◌<◌, List, [], ◌∷◌, ◌++◌, length, map, Option, Some, None, Bool, true, false, cond, ◌&&◌, refl, sym, ap, ◌∙◌, subst, arith, append_assoc, nat_le, nat_eq, slice_get, slice_index}
use Rattle.std.specs.Prelude.{nat_lt, flat_map, option_map, option_and_then}
use Rattle.std.specs.List.{list_all}
use Rattle.std.proofs.lemmas.Bool.{and_parts, and_from, ltb-true}
use Rattle.std.proofs.lemmas.List.{append-nil}
use Rattle.std.proofs.lemmas.Option.{slice_get_within, get_or_from_slice_get}
use Rattle.kts_abs.specs.declared.demand.Op.{Op}
use Rattle.kts_abs.specs.declared.demand.Op.TheVariants.{AtLeast, AtMost, Within, Without}
use Rattle.kts_base.specs.Limits.{most_parts}
use Rattle.kts_base.proofs.Orders.{yes_nat_lt}
use Rattle.kts_clause.specs.declared.literal.Literal.{Literal}
use Rattle.kts_code.specs.WellFormed.{is_place, are_places}
use Rattle.kts_emit.proofs.Accesses.{index_equals}
use Rattle.kts_emit.proofs.ShortCode.{sides_typed}
use Rattle.kts_emit.proofs.TypedConstraints.{TypedLiteral, TypedAddend, TypedBound, TypedConstraint}
use Rattle.kts_emit.proofs.TypedParts.{first_member}
use Rattle.kts_plan.specs.declared.bound.Bound.{Bound}
use Rattle.kts_plan.specs.declared.bound.Bound.TheVariants.{Rest, Side}
use Rattle.kts_plan.specs.Constraints.{Constraint}
use Rattle.kts_plan.specs.TaskReads.{bound_reads, constraint_reads, variable_step, variable_of, one_of_first, prefix_arguments}
use Rattle.kts_spec.specs.declared.declarations.Family.{Family}
use Rattle.kts_spec.specs.declared.declarations.ValueType.{ValueType}
use Rattle.kts_spec.specs.declared.declarations.ValueType.TheVariants.{Int, Member}
use Rattle.kts_spec.specs.declared.schema.Schema.{Schema}
use Rattle.kts_spec.specs.declared.tree.Term.{Term, roll-Term}
use Rattle.kts_spec.specs.declared.tree.Formula.{Formula, roll-Formula}
use Rattle.kts_spec.specs.declared.tree.Formula.TheOpen as one
use Rattle.kts_spec.specs.declared.tree.Formula.TheFolds.{ind-Term, ind-Formula, map-Term, map-Formula, fold-roll-Term}
use Rattle.kts_spec.specs.Domain.{at_each}
use Rattle.kts_spec.specs.Ranges.{Range, total_range, difference_range, product_range, least_range, greatest_range, sum_over_range}
use Rattle.kts_spec.specs.Reads.{Access, all_reads, term_reads, formula_reads, reads_of, reads_in}
use Rattle.kts_spec.specs.Related.{AllOf, Pairs}
use Rattle.kts_spec.specs.Schemas.{family_at, no_family}
use Rattle.kts_spec.specs.Typing.{Kind, Whole, MemberOf, whole_of, whole_within, ranges, are_members, may_bind, kind_of, is_typed, two_wholes, term_kind, formula_typed}
use Rattle.kts_spec.proofs.AddendRanges.{all_append}
use Rattle.kts_spec.proofs.KindParts.{if_some, then_some, IsWhole, whole_of_some, ranges_some, two_wholes_some, kind_of_use_some}
use Rattle.kts_spec.proofs.Rolls.{kind_of-roll, is_typed-roll, reads_of-roll, reads_in-roll}

-- ---- variables

variable_of-roll : (x : one.Term-F Formula Term) → variable_of (roll-Term x) ≡ variable_step (map-Term Formula Term (Unit {0}) (Option ℕ) (λ _. tt) variable_of x)
unfolding variable_of
variable_of-roll x = fold-roll-Term (Unit {0}) (Option ℕ) (λ _. tt) variable_step x

front_get : (xs ys : List ℕ) (k : ℕ) → k < length xs → slice_get (xs ++ ys) k ≡ slice_get xs k
front_get [] ys k less = absurd (omega arith)
front_get (x ∷ xs) ys zero less = refl
front_get (x ∷ xs) ys (suc k) less = front_get xs ys k (omega arith)

same_member : (o : Option ℕ) (index : ℕ) → option_map MemberOf o ≡ Some (MemberOf index) → o ≡ Some index
same_member None index e = cc
same_member (Some i) index e = cc

module _ (schema : Schema) where
  -- a term that is a variable has the index of the variable
  abbrev HasIndex : Term → Type 0
  HasIndex t = (k : ℕ) → variable_of t ≡ Some k → (scope : List ℕ) → kind_of schema t scope ≡ option_map MemberOf (slice_get scope k)

  not_variable : (x : one.Term-F Formula Term) → variable_of (roll-Term x) ≡ None → HasIndex (roll-Term x)
  not_variable x none k e scope = cc

  is_variable : (j : ℕ) → HasIndex (roll-Term (one.Var j))
  is_variable j k e scope =
      let same : j ≡ k = (let is = variable_of-roll (one.Var j) in cc) in
      ap (λ (f : List ℕ → Option Kind). f scope) (kind_of-roll schema (one.Var j)) ∙ ap (λ n. option_map MemberOf (slice_get scope n)) same

  index_step : (x : one.Term-F Formula Term) → HasIndex (roll-Term x)
  index_step (one.Var j) = is_variable j
  index_step x = not_variable x (variable_of-roll x)

  variable_index : (t : Term) → HasIndex t
  variable_index t = ind-Term (λ _. Unit {0}) HasIndex (λ x y e. tt)
      (λ x y e. subst (λ z. HasIndex (roll-Term z)) e (index_step (map-Term _ _ Formula Term (λ p. p.0) (λ p. p.0) y))) t

  module _ (prefix : List ℕ) where
    -- ---- arguments

    argument_place : (t : Term) (index : ℕ) (more : List ℕ) → kind_of schema t (prefix ++ more) ≡ Some (MemberOf index)
        → is_place prefix index (one_of_first (length prefix) (variable_of t)) ≡ true
    argument_place t index more typed = by (variable_of t) refl
      where
        in_prefix : (k : ℕ) → variable_of t ≡ Some k → (b : Bool) → nat_lt k (length prefix) ≡ b → is_place prefix index (cond b (Some k) None) ≡ true
        in_prefix k e false l = refl
        in_prefix k e true l =
            let there = same_member (slice_get (prefix ++ more) k) index (sym (variable_index t k e (prefix ++ more)) ∙ typed) in
            let here = sym (front_get prefix more k (ltb-true k (length prefix) l)) ∙ there in
            let same : slice_index prefix k ≡ index = get_or_from_slice_get prefix k index 0 here in
            and_from (nat_lt k (length prefix)) (nat_eq (slice_index prefix k) index) l (ap (λ i. nat_eq i index) same ∙ index_equals index)

        by : (o : Option ℕ) → variable_of t ≡ o → is_place prefix index (one_of_first (length prefix) o) ≡ true
        by None e = refl
        by (Some k) e = in_prefix k e (nat_lt k (length prefix)) refl

    arguments_place : (ts : List Term) (indexes : List ℕ) (more : List ℕ) → are_members indexes (at_each (prefix ++ more) (map (kind_of schema) ts)) ≡ true
        → are_places prefix indexes (prefix_arguments (length prefix) ts) ≡ true
    arguments_place [] [] more e = refl
    arguments_place [] (i ∷ is) more e = cc
    arguments_place (t ∷ ts) [] more e = cc
    arguments_place (t ∷ ts) (i ∷ is) more e =
        let m = first_member i is (kind_of schema t (prefix ++ more)) (at_each (prefix ++ more) (map (kind_of schema) ts)) e in
        and_from (is_place prefix i (one_of_first (length prefix) (variable_of t))) (are_places prefix is (prefix_arguments (length prefix) ts))
        (argument_place t i more m.first) (arguments_place ts is more m.others)

    -- ---- accesses

    pub record Fits (a : Access) : Type 0 where
      pub there : nat_lt a.0 (length schema.choices) ≡ true
      pub places : are_places prefix (family_at schema.choices a.0).args (prefix_arguments (length prefix) a.1) ≡ true

    abbrev AllFit : List Access → Type 0
    AllFit = AllOf Fits

    abbrev OfTerm : Term → Type 0
    OfTerm t = (more : List ℕ) (k : Kind) → kind_of schema t (prefix ++ more) ≡ Some k → AllFit (reads_of t)

    abbrev OfFormula : Formula → Type 0
    OfFormula p = (more : List ℕ) → is_typed schema p (prefix ++ more) ≡ true → AllFit (reads_in p)

    abbrev Part : Type 0
    Part = (t : Term) × OfTerm t

    abbrev FormulaPart : Type 0
    FormulaPart = (p : Formula) × OfFormula p

    abbrev terms : List Part → List Term
    terms = map (λ (p : Part). p.0)

    abbrev formulas : List FormulaPart → List Formula
    formulas = map (λ (p : FormulaPart). p.0)

    abbrev with_reads : Term → Term × List Access
    with_reads t = (t, reads_of t)

    abbrev with_reads_in : Formula → Formula × List Access
    with_reads_in p = (p, reads_in p)

    abbrev kinds : List Part → List ℕ → List (Option Kind)
    kinds parts scope = at_each scope (map (kind_of schema) (terms parts))

    firsts : (ts : List Term) → map (λ (p : Term × List Access). p.0) (map with_reads ts) ≡ ts
    firsts [] = refl
    firsts (t ∷ ts) = ap (λ l. t ∷ l) (firsts ts)

    members_fit : (parts : List Part) (is more : List ℕ) → are_members is (kinds parts (prefix ++ more)) ≡ true → AllFit (all_reads (map with_reads (terms parts)))
    members_fit [] is more e = tt
    members_fit (p ∷ parts) [] more e = cc
    members_fit (p ∷ parts) (i ∷ is) more e =
        let m = first_member i is (kind_of schema p.0 (prefix ++ more)) (kinds parts (prefix ++ more)) e in
        all_append Fits (reads_of p.0) (all_reads (map with_reads (terms parts))) (p.1 more (MemberOf i) m.first) (members_fit parts is more m.others)

    wholes_fit : (parts : List Part) (ws : List Range) (more : List ℕ) → Pairs IsWhole (kinds parts (prefix ++ more)) ws
        → AllFit (all_reads (map with_reads (terms parts)))
    wholes_fit [] ws more h = tt
    wholes_fit (p ∷ parts) [] more h = absurd h
    wholes_fit (p ∷ parts) (v ∷ ws) more h =
        all_append Fits (reads_of p.0) (all_reads (map with_reads (terms parts))) (p.1 more (Whole v) h.0) (wholes_fit parts ws more h.1)

    formulas_fit : (parts : List FormulaPart) (more : List ℕ) → list_all (λ p. p (prefix ++ more)) (map (is_typed schema) (formulas parts)) ≡ true
        → AllFit (all_reads (map with_reads_in (formulas parts)))
    formulas_fit [] more e = tt
    formulas_fit (p ∷ parts) more e =
        let both = and_parts (is_typed schema p.0 (prefix ++ more)) _ e in
        all_append Fits (reads_in p.0) (all_reads (map with_reads_in (formulas parts))) (p.1 more both.0) (formulas_fit parts more both.1)

    two_fit : (f : Range → Range → Range) (parts : List Part) (more : List ℕ) (k : Kind) → two_wholes f (kinds parts (prefix ++ more)) ≡ Some k
        → AllFit (all_reads (map with_reads (terms parts)))
    two_fit f parts more k e = let t = two_wholes_some f (kinds parts (prefix ++ more)) k e in wholes_fit parts (t.left ∷ t.right ∷ []) more t.are

    -- under binders
    under : (p : FormulaPart) (more indexes : List ℕ) → is_typed schema p.0 ((prefix ++ more) ++ indexes) ≡ true → AllFit (reads_in p.0)
    under p more indexes e = p.1 (more ++ indexes) (subst (λ scope. is_typed schema p.0 scope ≡ true) (append_assoc prefix more indexes) e)

    abbrev bare : one.Term-F FormulaPart Part → one.Term-F Formula Term
    bare y = map-Term FormulaPart Part Formula Term (λ p. p.0) (λ p. p.0) y

    abbrev bare_formula : one.Formula-F FormulaPart Part → one.Formula-F Formula Term
    bare_formula y = map-Formula FormulaPart Part Formula Term (λ p. p.0) (λ p. p.0) y

    abbrev kind_at : one.Term-F FormulaPart Part → List ℕ → Option Kind
    kind_at y = term_kind schema (map-Term Formula Term (List ℕ → Bool) (List ℕ → Option Kind) (is_typed schema) (kind_of schema) (bare y))

    abbrev typed_at : one.Formula-F FormulaPart Part → List ℕ → Bool
    typed_at y = formula_typed schema (map-Formula Formula Term (List ℕ → Bool) (List ℕ → Option Kind) (is_typed schema) (kind_of schema) (bare_formula y))

    abbrev reads_at : one.Term-F FormulaPart Part → List Access
    reads_at y = term_reads (map-Term Formula Term (Formula × List Access) (Term × List Access) with_reads_in with_reads (bare y))

    abbrev formula_reads_at : one.Formula-F FormulaPart Part → List Access
    formula_reads_at y = formula_reads (map-Formula Formula Term (Formula × List Access) (Term × List Access) with_reads_in with_reads (bare_formula y))

    term_case : (y : one.Term-F FormulaPart Part) (more : List ℕ) (k : Kind) → kind_at y (prefix ++ more) ≡ Some k → AllFit (reads_at y)
    term_case (one.Number n) more k e = tt
    term_case (one.Var j) more k e = tt
    term_case (one.Given f args) more k e =
        let u = kind_of_use_some (slice_get schema.givens f) (kinds args (prefix ++ more)) k e in
        members_fit args u.family.args more u.members
    term_case (one.Choice x args) more k e =
        let u = kind_of_use_some (slice_get schema.choices x) (kinds args (prefix ++ more)) k e in
        let there = yes_nat_lt x (length schema.choices) (slice_get_within schema.choices x u.family u.there) in
        let same : family_at schema.choices x ≡ u.family = get_or_from_slice_get schema.choices x u.family no_family u.there in
        let places = arguments_place (terms args) u.family.args more u.members in
        let at = subst (λ (f : Family). are_places prefix f.args (prefix_arguments (length prefix) (terms args)) ≡ true) (sym same) places in
        (subst (λ ts. Fits (x, ts)) (sym (firsts (terms args))) (record { there = there; places = at }), members_fit args u.family.args more u.members)
    term_case (one.Add parts) more k e =
        let many = length (map (kind_of schema) (terms parts)) in
        let both = if_some (nat_le 2 many && nat_le many most_parts) _ k e in
        let all = then_some (λ ws. whole_within (total_range ws)) (ranges (kinds parts (prefix ++ more))) k both.1 in
        wholes_fit parts all.0 more (ranges_some (kinds parts (prefix ++ more)) all.0 all.1)
    term_case (one.Sub parts) more k e = two_fit difference_range parts more k e
    term_case (one.Mul parts) more k e = two_fit product_range parts more k e
    term_case (one.Min parts) more k e = two_fit least_range parts more k e
    term_case (one.Max parts) more k e = two_fit greatest_range parts more k e
    term_case (one.Sum i p a) more k e =
        let scope = prefix ++ more in
        let inner = scope ++ i ∷ [] in
        let both = if_some (may_bind schema scope (i ∷ []) && is_typed schema p.0 inner) _ k e in
        let tests = and_parts (may_bind schema scope (i ∷ [])) (is_typed schema p.0 inner) both.0 in
        let of = then_some (λ v. whole_within (sum_over_range v)) (option_and_then whole_of (kind_of schema a.0 inner)) k both.1 in
        let known = whole_of_some (kind_of schema a.0 inner) of.0 of.1 in
        let moved = subst (λ s. kind_of schema a.0 s ≡ Some (Whole of.0)) (append_assoc prefix more (i ∷ [])) known in
        all_append Fits (reads_in p.0) (reads_of a.0) (under p more (i ∷ []) tests.1) (a.1 (more ++ i ∷ []) (Whole of.0) moved)

    joined_fit : (parts : List FormulaPart) (more : List ℕ)
        → (nat_le 2 (length (map (is_typed schema) (formulas parts))) && list_all (λ p. p (prefix ++ more)) (map (is_typed schema) (formulas parts))) ≡ true
        → AllFit (all_reads (map with_reads_in (formulas parts)))
    joined_fit parts more e = formulas_fit parts more (and_parts (nat_le 2 (length (map (is_typed schema) (formulas parts)))) _ e).1

    formula_case : (y : one.Formula-F FormulaPart Part) (more : List ℕ) → typed_at y (prefix ++ more) ≡ true → AllFit (formula_reads_at y)
    formula_case (one.Compare o a b) more e =
        let s = sides_typed o (kind_of schema a.0 (prefix ++ more)) (kind_of schema b.0 (prefix ++ more)) e in
        all_append Fits (reads_of a.0) (reads_of b.0) (a.1 more s.left s.left_is) (b.1 more s.right s.right_is)
    formula_case (one.And parts) more e = joined_fit parts more e
    formula_case (one.Or parts) more e = joined_fit parts more e
    formula_case (one.Not p) more e = p.1 more e
    formula_case (one.Implies p q) more e =
        let tests = and_parts (is_typed schema p.0 (prefix ++ more)) (is_typed schema q.0 (prefix ++ more)) e in
        all_append Fits (reads_in p.0) (reads_in q.0) (p.1 more tests.0) (q.1 more tests.1)
    formula_case (one.Forall indexes p) more e =
        under p more indexes (and_parts (may_bind schema (prefix ++ more) indexes) (is_typed schema p.0 ((prefix ++ more) ++ indexes)) e).1
    formula_case (one.Exists indexes p) more e =
        under p more indexes (and_parts (may_bind schema (prefix ++ more) indexes) (is_typed schema p.0 ((prefix ++ more) ++ indexes)) e).1

    term_all : (y : one.Term-F FormulaPart Part) → OfTerm (roll-Term (bare y))
    term_all y more k e =
        let kind_is = subst (λ (f : List ℕ → Option Kind). f (prefix ++ more) ≡ Some k) (kind_of-roll schema (bare y)) e in
        subst AllFit (sym (reads_of-roll (bare y))) (term_case y more k kind_is)

    formula_all : (y : one.Formula-F FormulaPart Part) → OfFormula (roll-Formula (bare_formula y))
    formula_all y more e =
        let typed_is = subst (λ (f : List ℕ → Bool). f (prefix ++ more) ≡ true) (is_typed-roll schema (bare_formula y)) e in
        subst AllFit (sym (reads_in-roll (bare_formula y))) (formula_case y more typed_is)

    term_fits : (t : Term) → OfTerm t
    term_fits t = ind-Term OfFormula OfTerm (λ x y e. subst (λ z. OfFormula (roll-Formula z)) e (formula_all y))
        (λ x y e. subst (λ z. OfTerm (roll-Term z)) e (term_all y)) t

    formula_fits : (p : Formula) → OfFormula p
    formula_fits p = ind-Formula OfFormula OfTerm (λ x y e. subst (λ z. OfFormula (roll-Formula z)) e (formula_all y))
        (λ x y e. subst (λ z. OfTerm (roll-Term z)) e (term_all y)) p

    -- ---- with the variables of the prefix alone

    whole_scope : prefix ++ [] ≡ prefix
    whole_scope = append-nil prefix

    term_here : (t : Term) (k : Kind) → kind_of schema t prefix ≡ Some k → AllFit (reads_of t)
    term_here t k e = term_fits t [] k (subst (λ scope. kind_of schema t scope ≡ Some k) (sym whole_scope) e)

    literals_fit : (ls : List Literal) → AllOf (TypedLiteral schema prefix) ls → AllFit (flat_map (λ (l : Literal). reads_in l.formula) ls)
    literals_fit [] h = tt
    literals_fit (l ∷ ls) h =
        let typed = subst (λ scope. is_typed schema l.formula scope ≡ true) (sym whole_scope) h.0.typed in
        all_append Fits (reads_in l.formula) (flat_map (λ (l : Literal). reads_in l.formula) ls) (formula_fits l.formula [] typed) (literals_fit ls h.1)

    addends_fit : (xs : List (Bool × Term)) → AllOf (TypedAddend schema prefix) xs → AllFit (flat_map (λ (a : Bool × Term). reads_of a.1) xs)
    addends_fit [] h = tt
    addends_fit (a ∷ xs) h =
        all_append Fits (reads_of a.1) (flat_map (λ (a : Bool × Term). reads_of a.1) xs) (term_here a.1 (Whole h.0.range) h.0.typed) (addends_fit xs h.1)

    bound_fits : (op : Op) (kind : ValueType) (b : Bound) → TypedBound schema prefix op kind b → AllFit (bound_reads b)
    bound_fits AtLeast (Int lo hi) (Rest xs) h = addends_fit xs h.each
    bound_fits AtMost (Int lo hi) (Rest xs) h = addends_fit xs h.each
    bound_fits Within (Member index) (Side t) h = term_here t (MemberOf index) h.typed
    bound_fits Without (Member index) (Side t) h = term_here t (MemberOf index) h.typed
    bound_fits op kind b h = absurd h

pub constraint_fits : (schema : Schema) (c : Constraint) → TypedConstraint schema c → AllOf (Fits schema c.prefix) (constraint_reads c)
constraint_fits schema c typed =
    all_append (Fits schema c.prefix) (flat_map (λ (l : Literal). reads_in l.formula) c.others) (bound_reads c.head.bound)
    (literals_fit schema c.prefix c.others typed.others) (bound_fits schema c.prefix c.head.op typed.head.family.kind c.head.bound typed.head.bound)
