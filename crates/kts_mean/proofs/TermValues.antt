-- The values of well typed terms: which are small, which are members, and where an access finds its value.
use Rattle.std.proofs.Common.{◌≡◌, sym, ◌∙◌, ap, subst, ℕ, ◌+◌, ◌<◌, ◌≤◌, arith, List, [], ◌∷◌, length, map, true, nat_eq, Option, Some, None, slice_get, slice_index, ℤ, pos, int_le, int_lt}
use Rattle.std.specs.List.{Contains, list_all}
use Rattle.std.proofs.Math.Logic.{∥∥₁_elim}
use Rattle.std.proofs.Props.{props}
use Rattle.std.proofs.lemmas.Bool.{and_parts, and_from}
use Rattle.std.proofs.lemmas.Bool.Decides.{nat_tests}
use Rattle.std.proofs.lemmas.Int.{ints}
use Rattle.std.proofs.lemmas.Option.{slice_get_within, get_or_from_slice_get}
use Rattle.kts_base.specs.Limits.{most_members}
use Rattle.kts_base.proofs.Orders.{yes_int_le, yes_int_lt}
use Rattle.kts_spec.specs.declared.declarations.Family.{Family}
use Rattle.kts_spec.specs.declared.instance.Instance.{Instance}
use Rattle.kts_spec.specs.declared.schema.Schema.{Schema}
use Rattle.kts_spec.specs.declared.tree.Term.{Term}
use Rattle.kts_spec.specs.declared.tree.Term.TheVariants as term
use Rattle.kts_spec.specs.CellOrder.{AreMembers}
use Rattle.kts_spec.specs.Data.{is_valid}
use Rattle.kts_spec.specs.Meaning.{value_on}
use Rattle.kts_spec.specs.MeaningEquations.{values_on}
use Rattle.kts_spec.specs.Places.{place, offset}
use Rattle.kts_spec.specs.Related.{AllOf}
use Rattle.kts_spec.specs.Schedules.{cells, schedules}
use Rattle.kts_spec.specs.Schemas.{is_family, no_family, family_at}
use Rattle.kts_spec.specs.TypedValues.{IsOfKind}
use Rattle.kts_spec.specs.Typing.{Kind, Whole, MemberOf, are_members, kind_of_use, kind_of}
use Rattle.kts_spec.specs.Worlds.{World, world_of, size_of, sizes_of, given_of, choice_of, table_of}
use Rattle.kts_spec.proofs.CellPlaces.{cells_have_numbers, number_at, table_length}
use Rattle.kts_spec.proofs.Conditions.{schema_facts, instance_facts}
use Rattle.kts_spec.proofs.KindParts.{map_some, kind_of_use_some}
use Rattle.kts_spec.proofs.Meanings.{value_on-Var}
use Rattle.kts_spec.proofs.TermRanges.{range_within}
use Rattle.kts_spec.proofs.TuplePlaces.{has_place}
use Rattle.kts_spec.proofs.TypedAccesses.{few_members}
use Rattle.kts_spec.proofs.TypedData.{Suits, schedule_fits}
use Rattle.kts_spec.proofs.Typings.{kind_of-Var, kind_of-Given, kind_of-Choice}
use Rattle.kts_spec.proofs.ValueKinds.{values_keep_kinds}
use Rattle.kts_mean.specs.Bounds.{Near}
use Rattle.kts_mean.specs.Parts.{IsScope, IsTermOf}
use Rattle.kts_mean.proofs.FamilyFacts.{FamilyFacts, found_family}
use Rattle.kts_mean.proofs.TermParts.{pairs_length, few_variables}

-- the first of several is a member of the first index
first_member : (i : ℕ) (is : List ℕ) (k : Option Kind) (ks : List (Option Kind)) → are_members (i ∷ is) (k ∷ ks) ≡ true → (k ≡ Some (MemberOf i)) × (are_members is ks ≡ true)
first_member i is None ks e = cc
first_member i is (Some (Whole w)) ks e = cc
first_member i is (Some (MemberOf j)) ks e =
    let both = and_parts (nat_eq i j) (are_members is ks) e in
    let same : i ≡ j = same_number i j both.0 in
    (ap (λ n. Some (MemberOf n)) (sym same), both.1)
  where
    same_number : (a b : ℕ) → nat_eq a b ≡ true → a ≡ b
    same_number a b e = grind (arith, nat_tests)

some_number : (a b : ℕ) → Some a ≡ Some b → a ≡ b
some_number a b e = cc

module _ (schema : Schema) (inst : Instance) (schedule : List ℤ) (valid : is_valid schema inst ≡ true) (stands : ∥ Contains (schedules (world_of schema inst)) schedule ∥₁) where
  abbrev w : World
  w = world_of schema inst

  pub few : (i : ℕ) → size_of w i ≤ most_members
  few i = few_members inst.members i (instance_facts schema inst valid).members

  of_kind : (scope vars : List ℕ) (t : Term) (k : Kind) → IsScope schema inst vars scope → kind_of schema t scope ≡ Some k → IsOfKind w k (value_on w schedule t vars)
  of_kind scope vars t (Whole r) s e = (
    ∥∥₁_elim stands (Prim.hlevel props) (λ h. (values_keep_kinds schema inst valid schedule h scope vars s.members t (Whole r) e).0),
    ∥∥₁_elim stands (Prim.hlevel props) (λ h. (values_keep_kinds schema inst valid schedule h scope vars s.members t (Whole r) e).1),
  )
  of_kind scope vars t (MemberOf i) s e = (
    ∥∥₁_elim stands (Prim.hlevel props) (λ h. (values_keep_kinds schema inst valid schedule h scope vars s.members t (MemberOf i) e).0),
    ∥∥₁_elim stands (Prim.hlevel props) (λ h. (values_keep_kinds schema inst valid schedule h scope vars s.members t (MemberOf i) e).1),
  )

  near_kind : (scope vars : List ℕ) (t : Term) (k : Kind) → IsScope schema inst vars scope → kind_of schema t scope ≡ Some k → Near 1 (value_on w schedule t vars)
  near_kind scope vars t (Whole r) s e =
      let v = of_kind scope vars t (Whole r) s e in
      let b = range_within schema t scope r e in
      let low = b.low in
      let high = b.high in
      (omega (arith, ints, v.0, low), omega (arith, ints, v.1, high))
  near_kind scope vars t (MemberOf i) s e =
      let v = of_kind scope vars t (MemberOf i) s e in
      let size = few i in
      (omega (arith, ints, v.0), omega (arith, ints, v.1, size))

  -- the value of a term is a number within the limit
  pub value_near : (vars : List ℕ) (t : Term) → IsTermOf schema inst vars t → Near 1 (value_on w schedule t vars)
  value_near vars t h = near_kind h.scope vars t h.kind h.is_scope h.typed

  -- a variable is in scope, and a member of its index
  pub record VariableFacts (vars : List ℕ) (k : ℕ) : Type 0 where
    pub there : k < length vars
    pub small : slice_index vars k < most_members

  pub variable_facts : (vars : List ℕ) (k : ℕ) → IsTermOf schema inst vars (term.Var k) → VariableFacts vars k
  variable_facts vars k h =
      let found = map_some MemberOf (slice_get h.scope k) h.kind (sym (kind_of-Var schema h.scope k) ∙ h.typed) in
      let v = of_kind h.scope vars (term.Var k) (MemberOf found.0) h.is_scope (h.typed ∙ ap (λ k. Some k) (sym found.2)) in
      let is = value_on-Var w schedule vars k in
      let size = few found.0 in
      let high = rw is at v.1 in
      let within = slice_get_within h.scope k found.0 found.1 in
      let same = few_variables schema inst h.scope vars h.is_scope in
      record { there = omega (arith, within, same); small = omega (arith, ints, high, size) }

  -- arguments that are members by their kinds are members
  args_in : (scope vars : List ℕ) → IsScope schema inst vars scope → (args : List Term) (is : List ℕ) → are_members is (map (λ t. kind_of schema t scope) args) ≡ true → AreMembers (map (size_of w) is) (values_on w schedule args vars)
  args_in scope vars s [] [] e = tt
  args_in scope vars s [] (i ∷ is) e = cc
  args_in scope vars s (t ∷ args) [] e = cc
  args_in scope vars s (t ∷ args) (i ∷ is) e =
      let m = first_member i is (kind_of schema t scope) (map (λ t. kind_of schema t scope) args) e in
      let v = value_on w schedule t vars in
      let b = of_kind scope vars t (MemberOf i) s m.0 in
      (and_from (int_le (pos 0) v) (int_lt v (pos (size_of w i))) (yes_int_le (pos 0) v b.0) (yes_int_lt v (pos (size_of w i)) b.1), args_in scope vars s args is m.1)

  args_typed : (scope vars : List ℕ) → IsScope schema inst vars scope → (args : List Term) (is : List ℕ) → are_members is (map (λ t. kind_of schema t scope) args) ≡ true → AllOf (IsTermOf schema inst vars) args
  args_typed scope vars s [] is e = tt
  args_typed scope vars s (t ∷ args) [] e = cc
  args_typed scope vars s (t ∷ args) (i ∷ is) e =
      let m = first_member i is (kind_of schema t scope) (map (λ t. kind_of schema t scope) args) e in
      (record { scope = scope; is_scope = s; kind = MemberOf i; typed = m.0 }, args_typed scope vars s args is m.1)

  -- an access: the family is declared, and the arguments are members of its indexes
  pub record AccessFacts (families : List Family) (f : ℕ) (args : List Term) (vars : List ℕ) : Type 0 where
    pub declared : f < length families
    pub each : AllOf (IsTermOf schema inst vars) args
    pub family : FamilyFacts (length schema.indexes) (family_at families f)
    pub members : AreMembers (sizes_of w (family_at families f)) (values_on w schedule args vars)

  access_facts : (families : List Family) (f : ℕ) (args : List Term) (scope vars : List ℕ) (k : Kind) → IsScope schema inst vars scope → list_all (is_family (length schema.indexes)) families ≡ true
      → kind_of_use (slice_get families f) (map (λ t. kind_of schema t scope) args) ≡ Some k → AccessFacts families f args vars
  access_facts families f args scope vars k s known e =
      let u = kind_of_use_some (slice_get families f) (map (λ t. kind_of schema t scope) args) k e in
      let same : u.family ≡ family_at families f = sym (get_or_from_slice_get families f u.family no_family u.there) in
      record {
        declared = slice_get_within families f u.family u.there;
        each = args_typed scope vars s args u.family.args u.members;
        family = subst (FamilyFacts (length schema.indexes)) same (found_family (length schema.indexes) families f u.family known u.there);
        members = subst (λ (family : Family). AreMembers (sizes_of w family) (values_on w schedule args vars)) same (args_in scope vars s args u.family.args u.members);
      }

  pub given_facts : (vars : List ℕ) (f : ℕ) (args : List Term) → IsTermOf schema inst vars (term.Given f args) → AccessFacts schema.givens f args vars
  given_facts vars f args h = access_facts schema.givens f args h.scope vars h.kind h.is_scope (schema_facts schema).givens (sym (kind_of-Given schema h.scope f args) ∙ h.typed)

  pub choice_facts : (vars : List ℕ) (x : ℕ) (args : List Term) → IsTermOf schema inst vars (term.Choice x args) → AccessFacts schema.choices x args vars
  choice_facts vars x args h = access_facts schema.choices x args h.scope vars h.kind h.is_scope (schema_facts schema).choices (sym (kind_of-Choice schema h.scope x args) ∙ h.typed)

  -- a place among the tuples of a given is one of its table
  pub place_within : (f : ℕ) (args : List ℤ) (at : ℕ) → f < length schema.givens → AreMembers (sizes_of w (given_of w f)) args → place (sizes_of w (given_of w f)) args ≡ Some at → at < length (table_of w f)
  place_within f args at h inside e =
      let here = has_place (sizes_of w (given_of w f)) args inside in
      let same = some_number here.at at (sym here.is ∙ e) in
      let below = here.below in
      let long = table_length w f (instance_facts schema inst valid).tables h in
      omega (arith, same, below, long)

  -- a schedule is as long as there are cells
  pub schedule_length : length schedule ≡ length (cells w)
  schedule_length = ∥∥₁_elim stands (Prim.hlevel props) (λ h. sym (pairs_length (Suits w) (cells w) schedule (schedule_fits w (length schema.indexes) schedule (schema_facts schema).choices h)))

  -- the cell of an access is one of the schedule
  pub cell_within : (x : ℕ) (args : List ℤ) (at : ℕ) → x < length schema.choices → place (sizes_of w (choice_of w x)) args ≡ Some at → offset w x + at < length schedule
  cell_within x args at h e =
      let stands = (cells_have_numbers w).access x (offset w x + at) args h (number_at w x at args e) in
      let within = slice_get_within (cells w) (offset w x + at) _ stands in
      let long = schedule_length in
      omega (arith, within, long)
