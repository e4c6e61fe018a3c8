-- The value of a well typed term is of its kind.
use Rattle.std.proofs.Common.{◌≡◌, sym, subst, ap, ℕ, zero, suc, ◌<◌, ◌≤◌, List, [], ◌∷◌, ◌++◌, length, map, fold, Bool, true, Option, None, Some, slice_get, slice_index, ℤ, pos, ◌+ℤ◌, ◌-ℤ◌, ◌*ℤ◌, int_le, int_lt, nat_eq, arith, if◌then◌else◌}
use Rattle.std.specs.List.{Contains, range_with_len}
use Rattle.std.specs.Int.{int_min, int_max}
use Rattle.std.proofs.lemmas.Bool.{and_parts, and_from}
use Rattle.std.proofs.lemmas.Bool.Decides.{nat_tests}
use Rattle.std.proofs.lemmas.Int.{ints}
use Rattle.std.proofs.lemmas.List.FromFn.{length-map-range_with_len}
use Rattle.kts_spec.specs.declared.declarations.ValueType.{ValueType}
use Rattle.kts_base.specs.Limits.{most_members}
use Rattle.kts_spec.specs.declared.instance.Instance.{Instance}
use Rattle.kts_spec.specs.declared.schema.Schema.{Schema}
use Rattle.kts_spec.specs.declared.tree.Term.{Term, roll-Term}
use Rattle.kts_spec.specs.declared.tree.Formula.{Formula}
use Rattle.kts_spec.specs.declared.tree.Formula.TheOpen as one
use Rattle.kts_spec.specs.declared.tree.Formula.TheFolds.{map-Term}
use Rattle.kts_spec.specs.Data.{is_value, is_valid, are_tables}
use Rattle.kts_spec.specs.Domain.{at_each, of_two, term_step}
use Rattle.kts_spec.specs.Meaning.{on_schedule, value_on, truth_on}
use Rattle.kts_spec.specs.Ranges.{Range, sum_range, total_range, difference_range, product_range, least_range, greatest_range, sum_over_range}
use Rattle.kts_spec.specs.Related.{Pairs}
use Rattle.kts_spec.specs.Schedules.{cells, schedules}
use Rattle.kts_spec.specs.TypedValues.{IsOfKind, InScope, ValuesKeepKinds}
use Rattle.kts_spec.specs.Typing.{Kind, Whole, MemberOf, whole_within, ranges, two_wholes, kind_of_type, are_members, kind_of, is_typed, term_kind}
use Rattle.kts_spec.specs.Worlds.{World, world_of, size_of}
use Rattle.kts_spec.proofs.Conditions.{schema_facts, instance_facts}
use Rattle.kts_spec.proofs.ValueRanges.{Lies, sum_lies, difference_lies, product_lies, least_lies, greatest_lies, with_zero, kept_lies, sum_over_lies}
use Rattle.kts_spec.proofs.KindParts.{if_some, then_some, map_some, IsWhole, whole_of_some, WholeIs, whole_within_some, ranges_some, two_wholes_some, kind_of_use_some}
use Rattle.kts_spec.proofs.Rolls.{kind_of-roll, value-roll}
use Rattle.kts_spec.proofs.TypedData.{Suits, schedule_fits, range_all, map_all}
use Rattle.kts_spec.specs.CellOrder.{AreMembers}
use Rattle.kts_spec.proofs.TypedAccesses.{choice_fits, given_fits, value_of_kind, few_members}
use Rattle.kts_spec.proofs.Inductions.{FormulaPart, Part, terms, bare, by_terms}
use Rattle.kts_base.proofs.Orders.{yes_int_le, yes_int_lt}

-- the first of several is a member of the first index
record FirstMember (i : ℕ) (is : List ℕ) (k : Option Kind) (ks : List (Option Kind)) : Type 0 where
  first : k ≡ Some (MemberOf i)
  others : are_members is ks ≡ true

first_member : (i : ℕ) (is : List ℕ) (k : Option Kind) (ks : List (Option Kind)) → are_members (i ∷ is) (k ∷ ks) ≡ true → FirstMember i is k ks
first_member i is None ks e = cc
first_member i is (Some (Whole w)) ks e = cc
first_member i is (Some (MemberOf j)) ks e =
    let both = and_parts (nat_eq i j) (are_members is ks) e in
    let same : i ≡ j = same_number i j both.0 in
    record { first = ap (λ n. Some (MemberOf n)) (sym same); others = both.1 }
  where
    same_number : (a b : ℕ) → nat_eq a b ≡ true → a ≡ b
    same_number a b e = grind (arith, nat_tests)

-- a variable of the scope is a member of its index
variable_in : (w : World) (scope vars : List ℕ) (k i : ℕ) → InScope w scope vars → slice_get scope k ≡ Some i → slice_index vars k < size_of w i
variable_in w [] vars k i h e = cc
variable_in w (j ∷ scope) [] k i h e = absurd h
variable_in w (j ∷ scope) (m ∷ vars) zero i h e = let same : j ≡ i = cc in subst (λ n. m < size_of w n) same h.0
variable_in w (j ∷ scope) (m ∷ vars) (suc k) i h e = variable_in w scope vars k i h.1 e

-- one variable more
scope_more : (w : World) (scope vars : List ℕ) (i m : ℕ) → InScope w scope vars → m < size_of w i → InScope w (scope ++ i ∷ []) (vars ++ m ∷ [])
scope_more w [] [] i m h l = (l, tt)
scope_more w [] (n ∷ vars) i m h l = absurd h
scope_more w (j ∷ scope) [] i m h l = absurd h
scope_more w (j ∷ scope) (n ∷ vars) i m h l = (h.0, scope_more w scope vars i m h.1 l)

member_is : (w : World) (i m : ℕ) → m < size_of w i → IsOfKind w (MemberOf i) (pos m)
member_is w i m h = (omega (arith, ints), omega (arith, ints))

whole_is : (w : World) (r : Range) (k : Kind) (v : ℤ) → WholeIs r k → Lies r v → IsOfKind w k v
whole_is w r k v is h = subst (λ (l : Kind). IsOfKind w l v) (sym is.is) h

typed_is : (w : World) (kind : ValueType) (k : Kind) (v : ℤ) → kind_of_type kind ≡ k → is_value w kind v ≡ true → IsOfKind w k v
typed_is w kind k v e h = subst (λ (l : Kind). IsOfKind w l v) e (value_of_kind w kind v h)

module _ (schema : Schema) (inst : Instance) (schedule : List ℤ) (valid : is_valid schema inst ≡ true) (stands : Contains (schedules (world_of schema inst)) schedule) where
  abbrev w : World
  w = world_of schema inst

  record Facts : Type 0 where
    few : (i : ℕ) → size_of w i ≤ most_members
    tables : are_tables w w.givens w.tables ≡ true
    suits : Pairs (Suits w) (cells w) schedule

  facts : Facts
  facts =
      let kept = instance_facts schema inst valid in
      record {
        few = λ i. few_members inst.members i kept.members;
        tables = kept.tables;
        suits = schedule_fits w (length schema.indexes) schedule (schema_facts schema).choices stands;
      }

  abbrev Keeps : Term → Type 0
  Keeps t = (scope vars : List ℕ) (k : Kind) → InScope w scope vars → kind_of schema t scope ≡ Some k → IsOfKind w k (value_on w schedule t vars)

  abbrev kinds : List (Part Keeps) → List ℕ → List (Option Kind)
  kinds parts scope = at_each scope (map (kind_of schema) (terms Keeps parts))

  abbrev values : List (Part Keeps) → List ℕ → List ℤ
  values parts vars = at_each vars (map (value_on w schedule) (terms Keeps parts))

  -- arguments that are members by their kinds are members
  args_in : (args : List (Part Keeps)) (is scope vars : List ℕ) → InScope w scope vars → are_members is (kinds args scope) ≡ true → AreMembers (map (size_of w) is) (values args vars)
  args_in [] [] scope vars h e = tt
  args_in [] (i ∷ is) scope vars h e = cc
  args_in (p ∷ args) [] scope vars h e = cc
  args_in (p ∷ args) (i ∷ is) scope vars h e =
      let m = first_member i is (kind_of schema p.0 scope) (kinds args scope) e in
      let v = value_on w schedule p.0 vars in
      let b : IsOfKind w (MemberOf i) v = p.1 scope vars (MemberOf i) h m.first in
      (and_from (int_le (pos 0) v) (int_lt v (pos (size_of w i))) (yes_int_le (pos 0) v b.0) (yes_int_lt v (pos (size_of w i)) b.1), args_in args is scope vars h m.others)

  -- a sum of several terms
  sum_keeps : (parts : List (Part Keeps)) (scope vars : List ℕ) (ws : List Range) (start : Range) (x : ℤ) → InScope w scope vars → Pairs IsWhole (kinds parts scope) ws → Lies start x → Lies (fold sum_range start ws) (fold ◌+ℤ◌ x (values parts vars))
  sum_keeps [] scope vars [] start x s h l = l
  sum_keeps [] scope vars (r ∷ ws) start x s h l = absurd h
  sum_keeps (p ∷ parts) scope vars [] start x s h l = absurd h
  sum_keeps (p ∷ parts) scope vars (r ∷ ws) start x s h l =
      sum_keeps parts scope vars ws (sum_range start r) (x +ℤ value_on w schedule p.0 vars) s h.1 (sum_lies start r x (value_on w schedule p.0 vars) l (p.1 scope vars (Whole r) s h.0))

  -- an operation on two numbers
  abbrev Sound : (Range → Range → Range) → (ℤ → ℤ → ℤ) → Type 0
  Sound f g = (a b : Range) (x y : ℤ) → Lies a x → Lies b y → Lies (f a b) (g x y)

  two_lie : (f : Range → Range → Range) (g : ℤ → ℤ → ℤ) (parts : List (Part Keeps)) (scope vars : List ℕ) (a b : Range) → Sound f g → InScope w scope vars → Pairs IsWhole (kinds parts scope) (a ∷ b ∷ []) → Lies (f a b) (of_two g (pos 0) (values parts vars))
  two_lie f g [] scope vars a b r s h = absurd h
  two_lie f g (p ∷ []) scope vars a b r s h = absurd h.1
  two_lie f g (p ∷ q ∷ []) scope vars a b r s h =
      r a b (value_on w schedule p.0 vars) (value_on w schedule q.0 vars) (p.1 scope vars (Whole a) s h.0) (q.1 scope vars (Whole b) s h.1.0)
  two_lie f g (p ∷ q ∷ (z ∷ parts)) scope vars a b r s h = absurd h.1.1

  two_keep : (f : Range → Range → Range) (g : ℤ → ℤ → ℤ) (parts : List (Part Keeps)) (scope vars : List ℕ) (k : Kind) → Sound f g → InScope w scope vars → two_wholes f (kinds parts scope) ≡ Some k → IsOfKind w k (of_two g (pos 0) (values parts vars))
  two_keep f g parts scope vars k r s e =
      let t = two_wholes_some f (kinds parts scope) k e in
      whole_is w (f t.left t.right) k _ t.gives (two_lie f g parts scope vars t.left t.right r s t.are)

  -- a sum over the members of an index
  over_keeps : (i : ℕ) (p : Formula) (a : Part Keeps) (scope vars : List ℕ) (r : Range) → InScope w scope vars → IsWhole (kind_of schema a.0 (scope ++ i ∷ [])) r
      → Lies (sum_over_range r) (fold ◌+ℤ◌ (pos 0) (map (λ m. if truth_on w schedule p (vars ++ m ∷ []) then value_on w schedule a.0 (vars ++ m ∷ []) else pos 0) (range_with_len 0 (size_of w i))))
  over_keeps i p a scope vars r s h =
      let addend : ℕ → ℤ = λ m. if truth_on w schedule p (vars ++ m ∷ []) then value_on w schedule a.0 (vars ++ m ∷ []) else pos 0 in
      let few : length (map addend (range_with_len 0 (size_of w i))) ≤ most_members = subst (λ n. n ≤ most_members) (sym (length-map-range_with_len addend 0 (size_of w i))) (facts.few i) in
      sum_over_lies (map addend (range_with_len 0 (size_of w i))) r few
      (map_all (Lies (with_zero r)) addend (range_with_len 0 (size_of w i)) (range_all _ 0 (size_of w i) (λ m l u. each m (omega arith))))
    where
      each : (m : ℕ) → m < size_of w i → Lies (with_zero r) (if truth_on w schedule p (vars ++ m ∷ []) then value_on w schedule a.0 (vars ++ m ∷ []) else pos 0)
      each m l = kept_lies (truth_on w schedule p (vars ++ m ∷ [])) r (value_on w schedule a.0 (vars ++ m ∷ [])) (a.1 (scope ++ i ∷ []) (vars ++ m ∷ []) (Whole r) (scope_more w scope vars i m s l) h)

  keeps_case : (y : one.Term-F FormulaPart (Part Keeps)) (scope vars : List ℕ) (k : Kind) → InScope w scope vars
      → term_kind schema (map-Term Formula Term (List ℕ → Bool) (List ℕ → Option Kind) (is_typed schema) (kind_of schema) (bare Keeps y)) scope ≡ Some k
      → IsOfKind w k (term_step (size_of w) (on_schedule w schedule) (map-Term Formula Term (List ℕ → Bool) (List ℕ → ℤ) (truth_on w schedule) (value_on w schedule) (bare Keeps y)) vars)
  keeps_case (one.Number n) scope vars k s e = whole_is w (n, n) k n (whole_within_some (n, n) k e) (omega (arith, ints), omega (arith, ints))
  keeps_case (one.Var j) scope vars k s e =
      let m = map_some MemberOf (slice_get scope j) k e in
      subst (λ (l : Kind). IsOfKind w l (pos (slice_index vars j))) m.2 (member_is w m.0 (slice_index vars j) (variable_in w scope vars j m.0 s m.1))
  keeps_case (one.Given f args) scope vars k s e =
      let u = kind_of_use_some (slice_get schema.givens f) (kinds args scope) k e in
      let v = given_fits w f u.family (values args vars) facts.tables u.there (args_in args u.family.args scope vars s u.members) in
      typed_is w u.family.kind k _ u.is v
  keeps_case (one.Choice x args) scope vars k s e =
      let u = kind_of_use_some (slice_get schema.choices x) (kinds args scope) k e in
      let v = choice_fits w schedule x u.family (values args vars) facts.suits u.there (args_in args u.family.args scope vars s u.members) in
      typed_is w u.family.kind k _ u.is v
  keeps_case (one.Add parts) scope vars k s e =
      let few = if_some _ _ k e in
      let all = then_some (λ ws. whole_within (total_range ws)) (ranges (kinds parts scope)) k few.1 in
      whole_is w (total_range all.0) k _ (whole_within_some (total_range all.0) k all.2)
      (sum_keeps parts scope vars all.0 (pos 0, pos 0) (pos 0) s (ranges_some (kinds parts scope) all.0 all.1) zero_lies)
    where
      zero_lies : Lies (pos 0, pos 0) (pos 0)
      zero_lies = (omega (arith, ints), omega (arith, ints))
  keeps_case (one.Sub parts) scope vars k s e = two_keep difference_range ◌-ℤ◌ parts scope vars k difference_lies s e
  keeps_case (one.Mul parts) scope vars k s e = two_keep product_range ◌*ℤ◌ parts scope vars k product_lies s e
  keeps_case (one.Min parts) scope vars k s e = two_keep least_range int_min parts scope vars k least_lies s e
  keeps_case (one.Max parts) scope vars k s e = two_keep greatest_range int_max parts scope vars k greatest_lies s e
  keeps_case (one.Sum i p a) scope vars k s e =
      let bound = if_some _ _ k e in
      let of = then_some (λ v. whole_within (sum_over_range v)) _ k bound.1 in
      let known = whole_of_some (kind_of schema a.0 (scope ++ i ∷ [])) of.0 of.1 in
      whole_is w (sum_over_range of.0) k _ (whole_within_some (sum_over_range of.0) k of.2) (over_keeps i p.0 a scope vars of.0 s known)

  keeps_all : (y : one.Term-F FormulaPart (Part Keeps)) → Keeps (roll-Term (bare Keeps y))
  keeps_all y scope vars k s e =
      rw (value-roll (size_of w) (on_schedule w schedule) (bare Keeps y))
      (keeps_case y scope vars k s (subst (λ (f : List ℕ → Option Kind). f scope ≡ Some k) (kind_of-roll schema (bare Keeps y)) e))

  keeps : (t : Term) → Keeps t
  keeps t = by_terms Keeps keeps_all t

pub values_keep_kinds : ValuesKeepKinds
values_keep_kinds schema inst valid schedule stands scope vars inside t k typed = keeps schema inst schedule valid stands t scope vars k inside typed
