-- What the typing of a term or a formula says of its parts.
use Rattle.std.proofs.Common.{◌≡◌, refl, sym, ◌∙◌, ap, subst, ℕ, suc, ◌+◌, ◌<◌, ◌≤◌, arith, List, [], ◌∷◌, ◌++◌, length, map, length-append, true, ◌&&◌, nat_le, Option, Some, None}
use Rattle.std.specs.List.{list_all}
use Rattle.std.proofs.lemmas.Bool.{and_parts}
use Rattle.std.proofs.lemmas.List.{append-nil, append_assoc, length-map}
use Rattle.kts_base.specs.Limits.{most_parts, most_variables}
use Rattle.kts_base.proofs.Orders.{nat_le_yes}
use Rattle.kts_spec.specs.declared.instance.Instance.{Instance}
use Rattle.kts_spec.specs.declared.schema.Schema.{Schema}
use Rattle.kts_spec.specs.declared.tree.Comparison.{Comparison}
use Rattle.kts_spec.specs.declared.tree.Comparison.TheVariants.{Le, Lt, Ge, Gt, Eq, Ne, Same, Other}
use Rattle.kts_spec.specs.declared.tree.Formula.{Formula}
use Rattle.kts_spec.specs.declared.tree.Formula.TheVariants as formula
use Rattle.kts_spec.specs.declared.tree.Term.{Term}
use Rattle.kts_spec.specs.declared.tree.Term.TheVariants as term
use Rattle.kts_spec.specs.Ranges.{Range, total_range, difference_range, product_range, least_range, greatest_range, sum_over_range}
use Rattle.kts_spec.specs.Related.{Pairs, AllOf}
use Rattle.kts_spec.specs.Typing.{Kind, Whole, MemberOf, whole_within, ranges, two_wholes, one_index, both_whole, are_comparable, is_index, may_bind, kind_of, is_typed}
use Rattle.kts_spec.specs.Worlds.{world_of, size_of}
use Rattle.kts_spec.proofs.KindParts.{if_some, then_some, IsWhole, whole_of_some, ranges_some, two_wholes_some}
use Rattle.kts_spec.proofs.SumsFit.{wholes_from}
use Rattle.kts_spec.proofs.Typings.{kind_of-Add, kind_of-Sub, kind_of-Mul, kind_of-Min, kind_of-Max, kind_of-Sum, is_typed-Compare, is_typed-And, is_typed-Or, is_typed-Not, is_typed-Implies, is_typed-Forall, is_typed-Exists}
use Rattle.kts_mean.specs.Bounds.{AllIn}
use Rattle.kts_mean.specs.Evaluation.{IsBodyOf}
use Rattle.kts_mean.specs.Parts.{IsScope, IsTermOf, IsFormulaOf}
use Rattle.kts_mean.proofs.FamilyFacts.{all_in}

-- ---- lists

pub pairs_length : {X Y : Type 0} (R : X → Y → Type 0) (xs : List X) (ys : List Y) → Pairs R xs ys → length xs ≡ length ys
pairs_length R [] [] h = refl
pairs_length R [] (y ∷ ys) h = absurd h
pairs_length R (x ∷ xs) [] h = absurd h
pairs_length R (x ∷ xs) (y ∷ ys) h = ap suc (pairs_length R xs ys h.1)

pairs_more : {X Y : Type 0} (R : X → Y → Type 0) (xs : List X) (ys : List Y) (x : X) (y : Y) → Pairs R xs ys → R x y → Pairs R (xs ++ x ∷ []) (ys ++ y ∷ [])
pairs_more R [] [] x y h r = (r, tt)
pairs_more R [] (b ∷ ys) x y h r = absurd h
pairs_more R (a ∷ xs) [] x y h r = absurd h
pairs_more R (a ∷ xs) (b ∷ ys) x y h r = (h.0, pairs_more R xs ys x y h.1 r)

-- ---- kinds

members_of_one : (k l : Option Kind) → one_index k l ≡ true → ((x : Kind) × (k ≡ Some x)) × ((x : Kind) × (l ≡ Some x))
members_of_one None l e = cc
members_of_one (Some (Whole w)) l e = cc
members_of_one (Some (MemberOf i)) None e = cc
members_of_one (Some (MemberOf i)) (Some (Whole w)) e = cc
members_of_one (Some (MemberOf i)) (Some (MemberOf j)) e = ((MemberOf i, refl), (MemberOf j, refl))

wholes_of_two : (k l : Option Kind) → both_whole k l ≡ true → ((x : Kind) × (k ≡ Some x)) × ((x : Kind) × (l ≡ Some x))
wholes_of_two k l e = let h = wholes_from k l e in ((Whole h.left, h.left_is), (Whole h.right, h.right_is))

-- the sides of a comparison have kinds
comparable_kinds : (c : Comparison) (k l : Option Kind) → are_comparable c k l ≡ true → ((x : Kind) × (k ≡ Some x)) × ((x : Kind) × (l ≡ Some x))
comparable_kinds Le k l e = wholes_of_two k l e
comparable_kinds Lt k l e = wholes_of_two k l e
comparable_kinds Ge k l e = wholes_of_two k l e
comparable_kinds Gt k l e = wholes_of_two k l e
comparable_kinds Eq k l e = wholes_of_two k l e
comparable_kinds Ne k l e = wholes_of_two k l e
comparable_kinds Same k l e = members_of_one k l e
comparable_kinds Other k l e = members_of_one k l e

-- what may be bound
pub record Binders (schema : Schema) (scope indexes : List ℕ) : Type 0 where
  pub declared : AllIn (length schema.indexes) indexes
  pub few : length scope + length indexes ≤ most_variables

binders : (schema : Schema) (scope indexes : List ℕ) → may_bind schema scope indexes ≡ true → Binders schema scope indexes
binders schema scope indexes e =
    let some = nat_le 1 (length indexes) in
    let known = list_all (is_index schema) indexes in
    let room = nat_le (length scope + length indexes) most_variables in
    let whole = and_parts (some && known) room e in
    record { declared = all_in (length schema.indexes) indexes (and_parts some known whole.0).1; few = nat_le_yes (length scope + length indexes) most_variables whole.1 }

module _ (schema : Schema) (inst : Instance) where
  -- one variable more
  scope_more : (scope vars : List ℕ) (i m : ℕ) → IsScope schema inst vars scope → length scope < most_variables → m < size_of (world_of schema inst) i → IsScope schema inst (vars ++ m ∷ []) (scope ++ i ∷ [])
  scope_more scope vars i m h room l =
      let n = length-append scope (i ∷ []) in
      record { few = omega (arith, n, room); members = pairs_more (λ i m. m < size_of (world_of schema inst) i) scope vars i m h.members l }

  pub few_variables : (scope vars : List ℕ) → IsScope schema inst vars scope → length scope ≡ length vars
  few_variables scope vars h = pairs_length (λ i m. m < size_of (world_of schema inst) i) scope vars h.members

  module _ (vars : List ℕ) where
    abbrev OfTerm : Term → Type 0
    OfTerm = IsTermOf schema inst vars

    abbrev OfFormula : Formula → Type 0
    OfFormula = IsFormulaOf schema inst vars

    -- ---- terms

    wholes_typed : (scope : List ℕ) → IsScope schema inst vars scope → (parts : List Term) (ws : List Range) → Pairs IsWhole (map (λ t. kind_of schema t scope) parts) ws → AllOf OfTerm parts
    wholes_typed scope s [] ws h = tt
    wholes_typed scope s (t ∷ parts) [] h = absurd h
    wholes_typed scope s (t ∷ parts) (r ∷ ws) h = (record { scope = scope; is_scope = s; kind = Whole r; typed = h.0 }, wholes_typed scope s parts ws h.1)

    -- the parts of `+`
    pub record AddParts (parts : List Term) : Type 0 where
      pub few : length parts ≤ most_parts
      pub each : AllOf OfTerm parts

    pub add_parts : (parts : List Term) → OfTerm (term.Add parts) → AddParts parts
    add_parts parts h =
        let e = sym (kind_of-Add schema h.scope parts) ∙ h.typed in
        let test = if_some _ _ h.kind e in
        let all = then_some (λ ws. whole_within (total_range ws)) (ranges (map (λ t. kind_of schema t h.scope) parts)) h.kind test.1 in
        record {
          few = nat_le_yes (length parts) most_parts (and_parts (nat_le 2 (length parts)) (nat_le (length parts) most_parts) test.0).1;
          each = wholes_typed h.scope h.is_scope parts all.0 (ranges_some _ all.0 all.1);
        }

    -- the parts of an operation on two numbers
    pub record TwoParts (parts : List Term) : Type 0 where
      pub two : length parts ≡ 2
      pub each : AllOf OfTerm parts

    two_parts : (f : Range → Range → Range) (parts : List Term) (scope : List ℕ) (k : Kind) → IsScope schema inst vars scope → two_wholes f (map (λ t. kind_of schema t scope) parts) ≡ Some k → TwoParts parts
    two_parts f parts scope k s e =
        let t = two_wholes_some f (map (λ t. kind_of schema t scope) parts) k e in
        record {
          two = sym (length-map parts (λ t. kind_of schema t scope)) ∙ pairs_length IsWhole _ (t.left ∷ t.right ∷ []) t.are;
          each = wholes_typed scope s parts (t.left ∷ t.right ∷ []) t.are;
        }

    pub sub_parts : (parts : List Term) → OfTerm (term.Sub parts) → TwoParts parts
    sub_parts parts h = two_parts difference_range parts h.scope h.kind h.is_scope (sym (kind_of-Sub schema h.scope parts) ∙ h.typed)

    pub mul_parts : (parts : List Term) → OfTerm (term.Mul parts) → TwoParts parts
    mul_parts parts h = two_parts product_range parts h.scope h.kind h.is_scope (sym (kind_of-Mul schema h.scope parts) ∙ h.typed)

    pub min_parts : (parts : List Term) → OfTerm (term.Min parts) → TwoParts parts
    min_parts parts h = two_parts least_range parts h.scope h.kind h.is_scope (sym (kind_of-Min schema h.scope parts) ∙ h.typed)

    pub max_parts : (parts : List Term) → OfTerm (term.Max parts) → TwoParts parts
    max_parts parts h = two_parts greatest_range parts h.scope h.kind h.is_scope (sym (kind_of-Max schema h.scope parts) ∙ h.typed)

    -- the parts of a sum over an index, at each of its members
    pub record SumParts (i : ℕ) (p : Formula) (a : Term) : Type 0 where
      pub declared : i < length schema.indexes
      pub room : length vars < most_variables
      pub gate : (m : ℕ) → m < size_of (world_of schema inst) i → IsFormulaOf schema inst (vars ++ m ∷ []) p
      pub each : (m : ℕ) → m < size_of (world_of schema inst) i → IsTermOf schema inst (vars ++ m ∷ []) a

    pub sum_parts : (i : ℕ) (p : Formula) (a : Term) → OfTerm (term.Sum i p a) → SumParts i p a
    sum_parts i p a h =
        let e = sym (kind_of-Sum schema h.scope i p a) ∙ h.typed in
        let test = if_some _ _ h.kind e in
        let both = and_parts (may_bind schema h.scope (i ∷ [])) (is_typed schema p (h.scope ++ i ∷ [])) test.0 in
        let b = binders schema h.scope (i ∷ []) both.0 in
        let few = b.few in
        let room : length h.scope < most_variables = omega (arith, few) in
        let same = few_variables h.scope vars h.is_scope in
        let of = then_some (λ v. whole_within (sum_over_range v)) _ h.kind test.1 in
        let known = whole_of_some (kind_of schema a (h.scope ++ i ∷ [])) of.0 of.1 in
        record {
          declared = b.declared.0;
          room = omega (arith, room, same);
          gate = λ m l. record { scope = h.scope ++ i ∷ []; is_scope = scope_more h.scope vars i m h.is_scope room l; typed = both.1 };
          each = λ m l. record { scope = h.scope ++ i ∷ []; is_scope = scope_more h.scope vars i m h.is_scope room l; kind = Whole of.0; typed = known };
        }

    -- ---- formulas

    all_typed : (scope : List ℕ) → IsScope schema inst vars scope → (parts : List Formula) → list_all (λ p. is_typed schema p scope) parts ≡ true → AllOf OfFormula parts
    all_typed scope s [] h = tt
    all_typed scope s (p ∷ parts) h =
        let both = and_parts (is_typed schema p scope) (list_all (λ p. is_typed schema p scope) parts) h in
        (record { scope = scope; is_scope = s; typed = both.0 }, all_typed scope s parts both.1)

    pub and_formulas : (parts : List Formula) → OfFormula (formula.And parts) → AllOf OfFormula parts
    and_formulas parts h = all_typed h.scope h.is_scope parts (and_parts (nat_le 2 (length parts)) _ (sym (is_typed-And schema h.scope parts) ∙ h.typed)).1

    pub or_formulas : (parts : List Formula) → OfFormula (formula.Or parts) → AllOf OfFormula parts
    or_formulas parts h = all_typed h.scope h.is_scope parts (and_parts (nat_le 2 (length parts)) _ (sym (is_typed-Or schema h.scope parts) ∙ h.typed)).1

    pub not_formula : (p : Formula) → OfFormula (formula.Not p) → OfFormula p
    not_formula p h = record { scope = h.scope; is_scope = h.is_scope; typed = sym (is_typed-Not schema h.scope p) ∙ h.typed }

    pub implies_formulas : (p q : Formula) → OfFormula (formula.Implies p q) → OfFormula p × OfFormula q
    implies_formulas p q h =
        let both = and_parts (is_typed schema p h.scope) (is_typed schema q h.scope) (sym (is_typed-Implies schema h.scope p q) ∙ h.typed) in
        (record { scope = h.scope; is_scope = h.is_scope; typed = both.0 }, record { scope = h.scope; is_scope = h.is_scope; typed = both.1 })

    pub compare_terms : (c : Comparison) (a b : Term) → OfFormula (formula.Compare c a b) → OfTerm a × OfTerm b
    compare_terms c a b h =
        let both = comparable_kinds c (kind_of schema a h.scope) (kind_of schema b h.scope) (sym (is_typed-Compare schema h.scope c a b) ∙ h.typed) in
        (record { scope = h.scope; is_scope = h.is_scope; kind = both.0.0; typed = both.0.1 }, record { scope = h.scope; is_scope = h.is_scope; kind = both.1.0; typed = both.1.1 })

    bound_body : (scope indexes : List ℕ) (p : Formula) → IsScope schema inst vars scope → (may_bind schema scope indexes && is_typed schema p (scope ++ indexes)) ≡ true → IsBodyOf schema inst vars indexes p
    bound_body scope indexes p s e =
        let both = and_parts (may_bind schema scope indexes) (is_typed schema p (scope ++ indexes)) e in
        let b = binders schema scope indexes both.0 in
        record { scope = scope; is_scope = s; declared = b.declared; few = b.few; typed = both.1 }

    pub forall_body : (indexes : List ℕ) (p : Formula) → OfFormula (formula.Forall indexes p) → IsBodyOf schema inst vars indexes p
    forall_body indexes p h = bound_body h.scope indexes p h.is_scope (sym (is_typed-Forall schema h.scope indexes p) ∙ h.typed)

    pub exists_body : (indexes : List ℕ) (p : Formula) → OfFormula (formula.Exists indexes p) → IsBodyOf schema inst vars indexes p
    exists_body indexes p h = bound_body h.scope indexes p h.is_scope (sym (is_typed-Exists schema h.scope indexes p) ∙ h.typed)

    -- a body with all its variables in scope
    pub body_end : (p : Formula) → IsBodyOf schema inst vars [] p → OfFormula p
    body_end p h = record { scope = h.scope; is_scope = h.is_scope; typed = subst (λ scope. is_typed schema p scope ≡ true) (append-nil h.scope) h.typed }

    -- a body with one variable more in scope
    pub record BodyStep (i : ℕ) (rest : List ℕ) (p : Formula) : Type 0 where
      pub declared : i < length schema.indexes
      pub room : length vars < most_variables
      pub inside : (m : ℕ) → m < size_of (world_of schema inst) i → IsBodyOf schema inst (vars ++ m ∷ []) rest p

    pub body_step : (i : ℕ) (rest : List ℕ) (p : Formula) → IsBodyOf schema inst vars (i ∷ rest) p → BodyStep i rest p
    body_step i rest p h =
        let few = h.few in
        let room : length h.scope < most_variables = omega (arith, few) in
        let same = few_variables h.scope vars h.is_scope in
        let n = length-append h.scope (i ∷ []) in
        record {
          declared = h.declared.0;
          room = omega (arith, room, same);
          inside = λ m l. record {
            scope = h.scope ++ i ∷ [];
            is_scope = scope_more h.scope vars i m h.is_scope room l;
            declared = h.declared.1;
            few = omega (arith, few, n);
            typed = subst (λ scope. is_typed schema p scope ≡ true) (sym (append_assoc h.scope (i ∷ []) rest)) h.typed;
          };
        }
