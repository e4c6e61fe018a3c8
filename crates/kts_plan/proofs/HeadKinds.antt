-- The heads of well typed literals name cells of the right kind.
use Rattle.std.proofs.Common.{◌≡◌, refl, sym, ap, ◌∙◌, subst, inl, inr, ⊎_elim, ℕ, List, [], ◌∷◌, ◌++◌, map, pos, Bool, true, false, Option, Some, None, nat_eq}
use Rattle.std.specs.Prelude.{slice_get, flat_map}
use Rattle.std.specs.List.{enumerate_from}
use Rattle.std.proofs.lemmas.Bool.{and_parts}
use Rattle.kts_spec.specs.declared.declarations.Family.{Family}
use Rattle.kts_spec.specs.declared.declarations.ValueType.{ValueType}
use Rattle.kts_spec.specs.declared.declarations.ValueType.TheVariants.{Int, Member}
use Rattle.kts_spec.specs.declared.schema.Schema.{Schema}
use Rattle.kts_spec.specs.declared.tree.Comparison.{Comparison}
use Rattle.kts_spec.specs.declared.tree.Comparison.TheVariants.{Le, Lt, Ge, Gt, Eq, Ne, Same, Other}
use Rattle.kts_spec.specs.declared.tree.Term.{Term}
use Rattle.kts_spec.specs.declared.tree.Term.TheVariants.{Number as NumberTerm}
use Rattle.kts_spec.specs.declared.tree.Formula.{Formula, roll-Formula}
use Rattle.kts_spec.specs.declared.tree.Formula.TheOpen as one
use Rattle.kts_spec.specs.declared.tree.Formula.TheFolds.{ind-Formula, map-Formula}
use Rattle.kts_spec.specs.Addends.{Sign, Plus, Minus, Addend, opposite, alone, minus, addends, negation}
use Rattle.kts_spec.specs.Domain.{at_each}
use Rattle.kts_spec.specs.Ranges.{Range, one_number}
use Rattle.kts_spec.specs.Reads.{Access, reads_of}
use Rattle.kts_spec.specs.Related.{AllOf, Pairs}
use Rattle.kts_spec.specs.Typing.{Kind, Whole, MemberOf, kind_of_type, are_members, are_comparable, kind_of, is_typed, term_kind, formula_typed}
use Rattle.kts_spec.proofs.AddendRanges.{HasRange, ranged_whole, addends_ranged, all_append, all_opposite}
use Rattle.kts_spec.proofs.Conditions.{same_number}
use Rattle.kts_spec.proofs.KindParts.{kind_of_use_some}
use Rattle.kts_spec.proofs.Rolls.{kind_of-roll, is_typed-roll}
use Rattle.kts_spec.proofs.SumsFit.{Wholes, wholes_from}
use Rattle.kts_spec.proofs.Typings.{kind_of-Number}
use Rattle.kts_abs.specs.declared.demand.Op.{Op}
use Rattle.kts_abs.specs.declared.demand.Op.TheVariants.{AtLeast, AtMost, Within, Without}
use Rattle.kts_abs.proofs.Listed.{In, each_in}
use Rattle.kts_clause.specs.declared.literal.Literal.{Literal}
use Rattle.kts_plan.specs.declared.bound.Bound.{Bound}
use Rattle.kts_plan.specs.declared.bound.Bound.TheVariants.{Side}
use Rattle.kts_plan.specs.declared.head.Head.{Head}
use Rattle.kts_plan.specs.BareAccesses.{bare}
use Rattle.kts_plan.specs.Heads.{all_but, head_of, op_below, rest, heads_below, heads_zero, heads_of_assertion, heads_of}
use Rattle.kts_plan.specs.Assertions.{Assertion, comparison_assertion, assertion_of}
use Rattle.kts_plan.proofs.LiteralRolls.{assertion_at, assertion_of-roll, bare_is}
use Rattle.kts_plan.proofs.NumberedItems.{numbered_is, in_split, all_in, got_in}

-- an operation for cells of this type
abbrev pub IsFor : Op → ValueType → Type 0
IsFor AtLeast (Int lo hi) = Unit {0}
IsFor AtMost (Int lo hi) = Unit {0}
IsFor Within (Member i) = Unit {0}
IsFor Without (Member i) = Unit {0}
IsFor AtLeast (Member i) = ⊥
IsFor AtMost (Member i) = ⊥
IsFor Within (Int lo hi) = ⊥
IsFor Without (Int lo hi) = ⊥

abbrev IsForKind : Op → Kind → Type 0
IsForKind op k = (kind : ValueType) → kind_of_type kind ≡ k → IsFor op kind

none_some : {X : Type 0} (x : X) → None ≡ Some x → ⊥
none_some x e = cc

module _ (schema : Schema) (scope : List ℕ) where
  -- an argument that is a member of the index in every space
  pub record IsFixed (index : ℕ) (t : Term) : Type 0 where
    pub typed : kind_of schema t scope ≡ Some (MemberOf index)
    pub fixed : reads_of t ≡ []

  -- a head of a choice that is declared, with an operation for its cells
  pub record HeadFits (h : Head) : Type 0 where
    pub family : Family
    pub there : slice_get schema.choices h.choice ≡ Some family
    pub args : Pairs IsFixed family.args h.args
    pub op : IsFor h.op family.kind

  same_members : (is : List ℕ) (ts : List Term) → are_members is (at_each scope (map (kind_of schema) ts)) ≡ true → AllOf (λ u. reads_of u ≡ []) ts → Pairs IsFixed is ts
  same_members [] [] e f = tt
  same_members [] (t ∷ ts) e f = absurd (let none : false ≡ true = e in cc)
  same_members (i ∷ is) [] e f = absurd (let none : false ≡ true = e in cc)
  same_members (i ∷ is) (t ∷ ts) e f = by (λ g. same_members is ts g f.1) (kind_of schema t scope) refl e
    where
      by : (are_members is (at_each scope (map (kind_of schema) ts)) ≡ true → Pairs IsFixed is ts) → (k : Option Kind) → kind_of schema t scope ≡ k → are_members (i ∷ is) (k ∷ at_each scope (map (kind_of schema) ts)) ≡ true
          → IsFixed i t × Pairs IsFixed is ts
      by later None k g = absurd (let none : false ≡ true = g in cc)
      by later (Some (Whole r)) k g = absurd (let none : false ≡ true = g in cc)
      by later (Some (MemberOf j)) k g =
          let p = and_parts (nat_eq i j) (are_members is (at_each scope (map (kind_of schema) ts))) g in
          (record { typed = k ∙ ap (λ n. Some (MemberOf n)) (sym (same_number i j p.0)); fixed = f.0 }, later p.1)

  head_fits : (t : Term) (k : Kind) (op : Op) (b : Bound) → kind_of schema t scope ≡ Some k → IsForKind op k → (h : Head) (o : Option Access) → bare t ≡ o → In h (head_of op b o) → HeadFits h
  head_fits t k op b e for h None f i = absurd i
  head_fits t k op b e for h (Some a) f (inr i) = absurd i
  head_fits t k op b e for h (Some a) f (inl i) =
      let is = bare_is t a f in
      let g : term_kind schema (one.Choice a.0 (map (kind_of schema) a.1)) scope ≡ Some k =
      sym (ap (λ (g : List ℕ → Option Kind). g scope) (kind_of-roll schema (one.Choice a.0 a.1))) ∙ (ap (λ z. kind_of schema z scope) is.whole ∙ e) in
      let u = kind_of_use_some (slice_get schema.choices a.0) (at_each scope (map (kind_of schema) a.1)) k g in
      subst HeadFits (sym i) (record {
        family = u.family;
        there = u.there;
        args = same_members u.family.args a.1 u.members is.fixed;
        op = for u.family.kind u.is;
      })

  least_for : (r : Range) → IsForKind AtLeast (Whole r)
  least_for r (Int lo hi) e = tt
  least_for r (Member i) e = cc

  most_for : (r : Range) → IsForKind AtMost (Whole r)
  most_for r (Int lo hi) e = tt
  most_for r (Member i) e = cc

  within_for : (i : ℕ) → IsForKind Within (MemberOf i)
  within_for i (Int lo hi) e = cc
  within_for i (Member j) e = tt

  without_for : (i : ℕ) → IsForKind Without (MemberOf i)
  without_for i (Int lo hi) e = cc
  without_for i (Member j) e = tt

  below_fits : (a : Addend) (others : List Addend) → HasRange schema scope a → (h : Head) → In h (heads_below a others) → HeadFits h
  below_fits a others r h i = by a.sign i
    where
      by : (s : Sign) → In h (head_of (op_below s) (rest s others) (bare a.term)) → HeadFits h
      by Plus i = head_fits a.term (Whole r.range) AtMost (rest Plus others) r.is (most_for r.range) h (bare a.term) refl i
      by Minus i = head_fits a.term (Whole r.range) AtLeast (rest Minus others) r.is (least_for r.range) h (bare a.term) refl i

  zero_fits : (a : Addend) (others : List Addend) → HasRange schema scope a → (h : Head) → In h (heads_zero a others) → HeadFits h
  zero_fits a others r h i =
      ⊎_elim
      (λ j. head_fits a.term (Whole r.range) AtLeast (rest a.sign others) r.is (least_for r.range) h (bare a.term) refl j)
      (λ j. head_fits a.term (Whole r.range) AtMost (rest a.sign others) r.is (most_for r.range) h (bare a.term) refl j)
      (in_split h (head_of AtLeast (rest a.sign others) (bare a.term)) (head_of AtMost (rest a.sign others) (bare a.term)) i)

  sum_fits : (heads : Addend → List Addend → List Head) → ((a : Addend) (others : List Addend) → HasRange schema scope a → (h : Head) → In h (heads a others) → HeadFits h)
      → (xs : List Addend) → AllOf (HasRange schema scope) xs → (h : Head) → In h (flat_map (λ (numbered : ℕ × Addend). heads numbered.1 (all_but numbered.0 xs)) (enumerate_from 0 xs)) → HeadFits h
  sum_fits heads each xs ranged h i =
      let f = each_in (λ (numbered : ℕ × Addend). heads numbered.1 (all_but numbered.0 xs)) h (enumerate_from 0 xs) i in
      let n = numbered_is 0 xs f.item f.held in
      each f.item.1 (all_but f.item.0 xs) (all_in (HasRange schema scope) xs f.item.1 ranged (got_in xs n.place f.item.1 n.is)) h f.is

  sides_fit : (op : Op) (a b : Term) (i : ℕ) → IsForKind op (MemberOf i) → kind_of schema a scope ≡ Some (MemberOf i) → kind_of schema b scope ≡ Some (MemberOf i)
      → (h : Head) → In h (head_of op (Side b) (bare a) ++ head_of op (Side a) (bare b)) → HeadFits h
  sides_fit op a b i for ka kb h j =
      ⊎_elim
      (λ l. head_fits a (MemberOf i) op (Side b) ka for h (bare a) refl l)
      (λ l. head_fits b (MemberOf i) op (Side a) kb for h (bare b) refl l)
      (in_split h (head_of op (Side b) (bare a)) (head_of op (Side a) (bare b)) j)

  minus_ranged : (a b : Term) → Wholes (kind_of schema a scope) (kind_of schema b scope) → AllOf (HasRange schema scope) (minus a b)
  minus_ranged a b h =
      all_append (HasRange schema scope) (addends a) (map opposite (addends b) ++ []) (addends_ranged schema a scope h.left h.left_is)
      (all_append (HasRange schema scope) (map opposite (addends b)) [] (all_opposite schema scope (addends b) (addends_ranged schema b scope h.right h.right_is)) tt)

  more_ranged : (a b : Term) → Wholes (kind_of schema a scope) (kind_of schema b scope) → AllOf (HasRange schema scope) (minus a b ++ alone (NumberTerm (pos 1)))
  more_ranged a b h =
      all_append (HasRange schema scope) (minus a b) (alone (NumberTerm (pos 1))) (minus_ranged a b h)
      (ranged_whole schema (NumberTerm (pos 1)) scope (one_number (pos 1)) (kind_of-Number schema scope (pos 1)), tt)

  turned : (a b : Term) → Wholes (kind_of schema a scope) (kind_of schema b scope) → Wholes (kind_of schema b scope) (kind_of schema a scope)
  turned a b h = record { left = h.right; right = h.left; left_is = h.right_is; right_is = h.left_is }

  -- two members of one index
  pub one_is : (k l : Option Kind) → are_comparable Same k l ≡ true → (i : ℕ) × (k ≡ Some (MemberOf i)) × (l ≡ Some (MemberOf i))
  one_is None l e = cc
  one_is (Some (Whole v)) l e = cc
  one_is (Some (MemberOf i)) None e = cc
  one_is (Some (MemberOf i)) (Some (Whole v)) e = cc
  one_is (Some (MemberOf i)) (Some (MemberOf j)) e = (i, refl, ap (λ n. Some (MemberOf n)) (sym (same_number i j e)))

  comparison_fits : (c : Comparison) (a b : Term) → are_comparable c (kind_of schema a scope) (kind_of schema b scope) ≡ true → (h : Head) → In h (heads_of_assertion (comparison_assertion c a b)) → HeadFits h
  comparison_fits Le a b e = sum_fits heads_below below_fits (minus a b) (minus_ranged a b (wholes_from (kind_of schema a scope) (kind_of schema b scope) e))
  comparison_fits Lt a b e = sum_fits heads_below below_fits (minus a b ++ alone (NumberTerm (pos 1))) (more_ranged a b (wholes_from (kind_of schema a scope) (kind_of schema b scope) e))
  comparison_fits Ge a b e = sum_fits heads_below below_fits (minus b a) (minus_ranged b a (turned a b (wholes_from (kind_of schema a scope) (kind_of schema b scope) e)))
  comparison_fits Gt a b e = sum_fits heads_below below_fits (minus b a ++ alone (NumberTerm (pos 1))) (more_ranged b a (turned a b (wholes_from (kind_of schema a scope) (kind_of schema b scope) e)))
  comparison_fits Eq a b e = sum_fits heads_zero zero_fits (minus a b) (minus_ranged a b (wholes_from (kind_of schema a scope) (kind_of schema b scope) e))
  comparison_fits Ne a b e = λ h i. absurd i
  comparison_fits Same a b e = let s = one_is (kind_of schema a scope) (kind_of schema b scope) e in sides_fit Within a b s.0 (within_for s.0) s.1 s.2
  comparison_fits Other a b e = let s = one_is (kind_of schema a scope) (kind_of schema b scope) e in sides_fit Without a b s.0 (without_for s.0) s.1 s.2

  pub negation_comparable : (c : Comparison) (k l : Option Kind) → are_comparable (negation c) k l ≡ are_comparable c k l
  negation_comparable Le k l = refl
  negation_comparable Lt k l = refl
  negation_comparable Ge k l = refl
  negation_comparable Gt k l = refl
  negation_comparable Eq k l = refl
  negation_comparable Ne k l = refl
  negation_comparable Same k l = refl
  negation_comparable Other k l = refl

  abbrev typed_at : one.Formula-F Formula Term → Bool
  typed_at x = formula_typed schema (map-Formula Formula Term (List ℕ → Bool) (List ℕ → Option Kind) (is_typed schema) (kind_of schema) x) scope

  assertion_fits : (x : one.Formula-F Formula Term) (negative : Bool) → typed_at x ≡ true → (h : Head) → In h (heads_of_assertion (assertion_at x negative)) → HeadFits h
  assertion_fits (one.Compare c a b) false e h i = comparison_fits c a b e h i
  assertion_fits (one.Compare c a b) true e h i = comparison_fits (negation c) a b (negation_comparable c (kind_of schema a scope) (kind_of schema b scope) ∙ e) h i
  assertion_fits other negative e h i = absurd i

  abbrev HeadsFit : Formula → Type 0
  HeadsFit p = (negative : Bool) → is_typed schema p scope ≡ true → (h : Head) → In h (heads_of_assertion (assertion_of p negative)) → HeadFits h

  heads_fit : (p : Formula) → HeadsFit p
  heads_fit p = ind-Formula HeadsFit (λ _. Unit {0}) (λ x y e. by x) (λ x y e. tt) p
    where
      by : (x : one.Formula-F Formula Term) → HeadsFit (roll-Formula x)
      by x negative e h i =
          assertion_fits x negative (subst (λ (f : List ℕ → Bool). f scope ≡ true) (is_typed-roll schema x) e) h (subst (λ (f : Bool → Assertion). In h (heads_of_assertion (f negative))) (assertion_of-roll x) i)

  pub literal_fits : (l : Literal) → is_typed schema l.formula scope ≡ true → (h : Head) → In h (heads_of l) → HeadFits h
  literal_fits l e h i = heads_fit l.formula l.negative e h i
