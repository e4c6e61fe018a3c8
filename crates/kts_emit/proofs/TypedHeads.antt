-- The heads of a well typed literal are well typed.
use Rattle.std.proofs.Common.{◌≡◌, ℕ, zero, suc, ◌+◌, ◌≤◌, inl, inr, List, [], ◌∷◌, ◌++◌, length, map, Bool, true, false, Option, Some, None, refl, sym, ap, ◌∙◌, subst, arith, ⊎_elim, slice_get, length-append}
use Rattle.std.specs.Prelude.{pos}
use Rattle.std.specs.List.{enumerate_from}
use Rattle.std.proofs.lemmas.List.{length-map}
use Rattle.kts_abs.specs.declared.demand.Op.{Op}
use Rattle.kts_abs.specs.declared.demand.Op.TheVariants.{AtLeast, AtMost, Within, Without}
use Rattle.kts_abs.proofs.Listed.{In, each_in}
use Rattle.kts_base.specs.Limits.{most_depth, most_addends}
use Rattle.kts_clause.specs.declared.literal.Literal.{Literal}
use Rattle.kts_plan.specs.declared.bound.Bound.{Bound}
use Rattle.kts_plan.specs.declared.bound.Bound.TheVariants.{Rest, Side}
use Rattle.kts_plan.specs.declared.head.Head.{Head}
use Rattle.kts_plan.specs.Assertions.{Assertion, comparison_assertion, assertion_of}
use Rattle.kts_plan.specs.BareAccesses.{bare}
use Rattle.kts_plan.specs.Heads.{all_but, signed_term, head_of, op_below, rest, heads_below, heads_zero, heads_of_sum, heads_of_assertion, heads_of}
use Rattle.kts_plan.proofs.HeadKinds.{negation_comparable}
use Rattle.kts_plan.proofs.LiteralRolls.{IsBare, bare_is, assertion_at, assertion_of-roll}
use Rattle.kts_plan.proofs.NumberedItems.{numbered_is, in_split, all_in, all_rest, got_in}
use Rattle.kts_spec.specs.declared.declarations.ValueType.{ValueType}
use Rattle.kts_spec.specs.declared.declarations.ValueType.TheVariants.{Int, Member}
use Rattle.kts_spec.specs.declared.schema.Schema.{Schema}
use Rattle.kts_spec.specs.declared.tree.Comparison.{Comparison}
use Rattle.kts_spec.specs.declared.tree.Comparison.TheVariants as c
use Rattle.kts_spec.specs.declared.tree.Term.{Term}
use Rattle.kts_spec.specs.declared.tree.Term.TheVariants.{Number as NumberTerm}
use Rattle.kts_spec.specs.declared.tree.Formula.{Formula, roll-Formula}
use Rattle.kts_spec.specs.declared.tree.Formula.TheOpen as one
use Rattle.kts_spec.specs.declared.tree.Formula.TheFolds.{ind-Formula, map-Formula}
use Rattle.kts_spec.specs.Addends.{Sign, Plus, Minus, Addend, opposite, alone, minus, addends, negation}
use Rattle.kts_spec.specs.Domain.{at_each}
use Rattle.kts_spec.specs.Ranges.{Range, one_number}
use Rattle.kts_spec.specs.Reads.{Access, reads_of}
use Rattle.kts_spec.specs.Related.{AllOf, Pairs}
use Rattle.kts_spec.specs.Sizes.{Size, beside, all_beside, comparison_over, formula_size, size_of_term, size_of_formula}
use Rattle.kts_spec.specs.Typing.{Kind, Whole, MemberOf, kind_of_type, are_members, are_comparable, kind_of, is_typed, term_kind, formula_typed}
use Rattle.kts_spec.proofs.AddendCounts.{addend_count}
use Rattle.kts_spec.proofs.AddendRanges.{HasRange, addends_ranged, all_append}
use Rattle.kts_spec.proofs.KindParts.{IsWhole, kind_of_use_some}
use Rattle.kts_spec.proofs.Rolls.{kind_of-roll, is_typed-roll, size_of_term-roll, size_of_formula-roll}
use Rattle.kts_spec.proofs.SumsFit.{Wholes, wholes_from}
use Rattle.kts_spec.proofs.TreeSizes.{size_of_term-Number}
use Rattle.kts_spec.proofs.Typings.{kind_of-Number}
use Rattle.kts_emit.proofs.FlatAddends.{IsFlat, addends_flat}
use Rattle.kts_emit.proofs.TypedConstraints.{TypedAddend, TypedSum, TypedSide, TypedArgument, TypedBound, TypedHead}
use Rattle.kts_emit.proofs.TypedParts.{AreDeep, all_deep, first_member, one_is, comparison_depth}

few_rest : {X : Type 0} (k : ℕ) (xs : List X) → length (all_but k xs) ≤ length xs
few_rest k [] = omega arith
few_rest zero (x ∷ xs) = omega arith
few_rest (suc k) (x ∷ xs) = omega (arith, few_rest k xs)

module _ (schema : Schema) (scope : List ℕ) where
  -- ---- accesses

  arguments_typed : (is : List ℕ) (ts : List Term) (depth : ℕ) → are_members is (at_each scope (map (kind_of schema) ts)) ≡ true
      → AllOf (λ u. reads_of u ≡ []) ts → AreDeep depth (map size_of_term ts) → depth ≤ most_depth → Pairs (TypedArgument schema scope) is ts
  arguments_typed [] [] depth e fixed deep le = tt
  arguments_typed [] (t ∷ ts) depth e fixed deep le = cc
  arguments_typed (i ∷ is) [] depth e fixed deep le = cc
  arguments_typed (i ∷ is) (t ∷ ts) depth e fixed deep le =
      let m = first_member i is (kind_of schema t scope) (at_each scope (map (kind_of schema) ts)) e in
      let first = deep.0 in
      (record { typed = m.first; fixed = fixed.0; flat = omega arith }, arguments_typed is ts depth m.others fixed.1 deep.1 le)

  -- a bound for cells of the kind
  abbrev IsBoundFor : Op → Bound → Kind → Type 0
  IsBoundFor op b k = (kind : ValueType) → kind_of_type kind ≡ k → TypedBound schema scope op kind b

  access_typed : (t : Term) (a : Access) (k : Kind) (op : Op) (b : Bound) → IsBare t a → kind_of schema t scope ≡ Some k
      → (size_of_term t).depth ≤ most_depth → IsBoundFor op b k → TypedHead schema scope (record { choice = a.0; args = a.1; op = op; bound = b })
  access_typed t a k op b is e le bound =
      let f : term_kind schema (one.Choice a.0 (map (kind_of schema) a.1)) scope ≡ Some k =
      sym (ap (λ (g : List ℕ → Option Kind). g scope) (kind_of-roll schema (one.Choice a.0 a.1))) ∙ (ap (λ z. kind_of schema z scope) is.whole ∙ e) in
      let u = kind_of_use_some (slice_get schema.choices a.0) (at_each scope (map (kind_of schema) a.1)) k f in
      let sizes = map size_of_term a.1 in
      let deep : suc (all_beside sizes).depth ≤ most_depth =
      subst (λ (s : Size). s.depth ≤ most_depth) (size_of_term-roll (one.Choice a.0 a.1)) (subst (λ z. (size_of_term z).depth ≤ most_depth) (sym is.whole) le) in
      record {
        family = u.family;
        there = u.there;
        args = arguments_typed u.family.args a.1 (all_beside sizes).depth u.members is.fixed (all_deep sizes) (omega arith);
        bound = bound u.family.kind u.is;
      }

  head_typed : (t : Term) (k : Kind) (op : Op) (b : Bound) → kind_of schema t scope ≡ Some k → (size_of_term t).depth ≤ most_depth
      → IsBoundFor op b k → (h : Head) (o : Option Access) → bare t ≡ o → In h (head_of op b o) → TypedHead schema scope h
  head_typed t k op b e le bound h None f i = absurd i
  head_typed t k op b e le bound h (Some a) f (inr i) = absurd i
  head_typed t k op b e le bound h (Some a) f (inl i) = subst (TypedHead schema scope) (sym i) (access_typed t a k op b (bare_is t a f) e le bound)

  -- ---- bounds by the kind

  least_bound : (xs : List (Bool × Term)) (r : Range) → TypedSum schema scope xs → IsBoundFor AtLeast (Rest xs) (Whole r)
  least_bound xs r h (Int lo hi) e = h
  least_bound xs r h (Member i) e = cc

  most_bound : (xs : List (Bool × Term)) (r : Range) → TypedSum schema scope xs → IsBoundFor AtMost (Rest xs) (Whole r)
  most_bound xs r h (Int lo hi) e = h
  most_bound xs r h (Member i) e = cc

  same_index : (i j : ℕ) → MemberOf i ≡ MemberOf j → i ≡ j
  same_index i j e = cc

  within_bound : (t : Term) (i : ℕ) → TypedSide schema scope i t → IsBoundFor Within (Side t) (MemberOf i)
  within_bound t i h (Member j) e = subst (λ n. TypedSide schema scope n t) (sym (same_index j i e)) h
  within_bound t i h (Int lo hi) e = cc

  without_bound : (t : Term) (i : ℕ) → TypedSide schema scope i t → IsBoundFor Without (Side t) (MemberOf i)
  without_bound t i h (Member j) e = subst (λ n. TypedSide schema scope n t) (sym (same_index j i e)) h
  without_bound t i h (Int lo hi) e = cc

  -- ---- signed sums

  -- an addend of a sum
  record IsAddend (a : Addend) : Type 0 where
    range : Range
    typed : IsWhole (kind_of schema a.term scope) range
    flat : IsFlat a

  signed_addend : (a : Addend) → IsAddend a → TypedAddend schema scope (signed_term a)
  signed_addend a h = record { range = h.range; typed = h.typed; flat = h.flat }

  all_signed : (xs : List Addend) → AllOf IsAddend xs → AllOf (TypedAddend schema scope) (map signed_term xs)
  all_signed [] h = tt
  all_signed (a ∷ xs) h = (signed_addend a h.0, all_signed xs h.1)

  all_turned : (xs : List Addend) → AllOf IsAddend xs → AllOf (TypedAddend schema scope) (map (λ a. signed_term (opposite a)) xs)
  all_turned [] h = tt
  all_turned (a ∷ xs) h = let q = h.0 in (record { range = q.range; typed = q.typed; flat = q.flat }, all_turned xs h.1)

  -- the rest of a sum, as a bound
  least_rest : (sign : Sign) (xs : List Addend) (r : Range) → AllOf IsAddend xs → length xs ≤ suc most_addends
      → IsBoundFor AtLeast (rest sign xs) (Whole r)
  least_rest Plus xs r h few =
      let same = length-map xs (λ a. signed_term (opposite a)) in
      least_bound (map (λ a. signed_term (opposite a)) xs) r (record { each = all_turned xs h; few = omega arith })
  least_rest Minus xs r h few =
      let same = length-map xs signed_term in least_bound (map signed_term xs) r (record { each = all_signed xs h; few = omega arith })

  most_rest : (sign : Sign) (xs : List Addend) (r : Range) → AllOf IsAddend xs → length xs ≤ suc most_addends
      → IsBoundFor AtMost (rest sign xs) (Whole r)
  most_rest Plus xs r h few =
      let same = length-map xs (λ a. signed_term (opposite a)) in
      most_bound (map (λ a. signed_term (opposite a)) xs) r (record { each = all_turned xs h; few = omega arith })
  most_rest Minus xs r h few =
      let same = length-map xs signed_term in most_bound (map signed_term xs) r (record { each = all_signed xs h; few = omega arith })

  -- the heads of an addend beside the others
  abbrev HeadsTyped : (Addend → List Addend → List Head) → Type 0
  HeadsTyped heads = (a : Addend) (others : List Addend) → IsAddend a → AllOf IsAddend others → length others ≤ suc most_addends
      → (h : Head) → In h (heads a others) → TypedHead schema scope h

  below_typed : HeadsTyped heads_below
  below_typed a others q rest_typed few h i = by a.sign i
    where
      by : (s : Sign) → In h (head_of (op_below s) (rest s others) (bare a.term)) → TypedHead schema scope h
      by Plus i = head_typed a.term (Whole q.range) AtMost (rest Plus others) q.typed q.flat (most_rest Plus others q.range rest_typed few) h (bare a.term) refl i
      by Minus i = head_typed a.term (Whole q.range) AtLeast (rest Minus others) q.typed q.flat (least_rest Minus others q.range rest_typed few) h (bare a.term) refl i

  zero_typed : HeadsTyped heads_zero
  zero_typed a others q rest_typed few h i =
      ⊎_elim
      (λ j. head_typed a.term (Whole q.range) AtLeast (rest a.sign others) q.typed q.flat (least_rest a.sign others q.range rest_typed few) h (bare a.term) refl j)
      (λ j. head_typed a.term (Whole q.range) AtMost (rest a.sign others) q.typed q.flat (most_rest a.sign others q.range rest_typed few) h (bare a.term) refl j)
      (in_split h (head_of AtLeast (rest a.sign others) (bare a.term)) (head_of AtMost (rest a.sign others) (bare a.term)) i)

  sum_typed : (heads : Addend → List Addend → List Head) → HeadsTyped heads → (xs : List Addend) → AllOf IsAddend xs → length xs ≤ suc most_addends
      → (h : Head) → In h (heads_of_sum heads xs) → TypedHead schema scope h
  sum_typed heads each xs typed few h i =
      let f = each_in (λ (numbered : ℕ × Addend). heads numbered.1 (all_but numbered.0 xs)) h (enumerate_from 0 xs) i in
      let n = numbered_is 0 xs f.item f.held in
      each f.item.1 (all_but f.item.0 xs) (all_in IsAddend xs f.item.1 typed (got_in xs n.place f.item.1 n.is)) (all_rest IsAddend xs f.item.0 typed)
      (omega (arith, few_rest f.item.0 xs)) h f.is

  -- the two sides of a comparison of members
  sides_typed : (op : Op) (a b : Term) (i : ℕ) → ((t : Term) → TypedSide schema scope i t → IsBoundFor op (Side t) (MemberOf i))
      → kind_of schema a scope ≡ Some (MemberOf i) → kind_of schema b scope ≡ Some (MemberOf i)
      → (size_of_term a).depth ≤ most_depth → (size_of_term b).depth ≤ most_depth
      → (h : Head) → In h (head_of op (Side b) (bare a) ++ head_of op (Side a) (bare b)) → TypedHead schema scope h
  sides_typed op a b i bound ka kb da db h j =
      ⊎_elim
      (λ l. head_typed a (MemberOf i) op (Side b) ka da (bound b (record { typed = kb; flat = db })) h (bare a) refl l)
      (λ l. head_typed b (MemberOf i) op (Side a) kb db (bound a (record { typed = ka; flat = da })) h (bare b) refl l)
      (in_split h (head_of op (Side b) (bare a)) (head_of op (Side a) (bare b)) j)

  -- ---- the sum of a comparison

  both_all : (xs : List Addend) → AllOf (HasRange schema scope) xs → AllOf IsFlat xs → AllOf IsAddend xs
  both_all [] h k = tt
  both_all (a ∷ xs) h k = let r = h.0 in (record { range = r.range; typed = r.is; flat = k.0 }, both_all xs h.1 k.1)

  addends_are : (t : Term) (r : Range) → IsWhole (kind_of schema t scope) r → (size_of_term t).depth ≤ most_depth → AllOf IsAddend (addends t)
  addends_are t r e le = both_all (addends t) (addends_ranged schema t scope r e) (addends_flat t le)

  opposites_are : (xs : List Addend) → AllOf IsAddend xs → AllOf IsAddend (map opposite xs)
  opposites_are [] h = tt
  opposites_are (a ∷ xs) h = let q = h.0 in (record { range = q.range; typed = q.typed; flat = q.flat }, opposites_are xs h.1)

  minus_are : (a b : Term) → Wholes (kind_of schema a scope) (kind_of schema b scope) → (size_of_term a).depth ≤ most_depth
      → (size_of_term b).depth ≤ most_depth → AllOf IsAddend (minus a b)
  minus_are a b h da db =
      all_append IsAddend (addends a) (map opposite (addends b) ++ []) (addends_are a h.left h.left_is da)
      (all_append IsAddend (map opposite (addends b)) [] (opposites_are (addends b) (addends_are b h.right h.right_is db)) tt)

  minus_count : (a b : Term) → length (minus a b) ≡ (size_of_term a).addends + (size_of_term b).addends
  minus_count a b =
      let m = addend_count a in let n = addend_count b in
      let all = length-append (addends a) (map opposite (addends b) ++ []) in
      let last = length-append (map opposite (addends b)) [] in
      let same = length-map (addends b) opposite in
      omega arith

  one_is_addend : AllOf IsAddend (alone (NumberTerm (pos 1)))
  one_is_addend = (record { range = one_number (pos 1); typed = kind_of-Number schema scope (pos 1); flat = rw (size_of_term-Number (pos 1)) (omega arith) }, tt)

  more_are : (a b : Term) → Wholes (kind_of schema a scope) (kind_of schema b scope) → (size_of_term a).depth ≤ most_depth
      → (size_of_term b).depth ≤ most_depth → AllOf IsAddend (minus a b ++ alone (NumberTerm (pos 1)))
  more_are a b h da db = all_append IsAddend (minus a b) (alone (NumberTerm (pos 1))) (minus_are a b h da db) one_is_addend

  more_count : (a b : Term) → length (minus a b ++ alone (NumberTerm (pos 1))) ≡ (size_of_term a).addends + (size_of_term b).addends + 1
  more_count a b = let e = minus_count a b in let f = length-append (minus a b) (alone (NumberTerm (pos 1))) in omega arith

  turned : (a b : Term) → Wholes (kind_of schema a scope) (kind_of schema b scope) → Wholes (kind_of schema b scope) (kind_of schema a scope)
  turned a b h = record { left = h.right; right = h.left; left_is = h.right_is; right_is = h.left_is }

  comparison_typed : (o : Comparison) (a b : Term) → are_comparable o (kind_of schema a scope) (kind_of schema b scope) ≡ true
      → (size_of_term a).depth ≤ most_depth → (size_of_term b).depth ≤ most_depth
      → (comparison_over o (beside (size_of_term a) (size_of_term b))).widest ≤ most_addends
      → (h : Head) → In h (heads_of_assertion (comparison_assertion o a b)) → TypedHead schema scope h
  comparison_typed c.Le a b e da db few =
      let h = wholes_from (kind_of schema a scope) (kind_of schema b scope) e in
      let n = minus_count a b in sum_typed heads_below below_typed (minus a b) (minus_are a b h da db) (omega arith)
  comparison_typed c.Lt a b e da db few =
      let h = wholes_from (kind_of schema a scope) (kind_of schema b scope) e in
      let n = more_count a b in sum_typed heads_below below_typed (minus a b ++ alone (NumberTerm (pos 1))) (more_are a b h da db) (omega arith)
  comparison_typed c.Ge a b e da db few =
      let h = turned a b (wholes_from (kind_of schema a scope) (kind_of schema b scope) e) in
      let n = minus_count b a in sum_typed heads_below below_typed (minus b a) (minus_are b a h db da) (omega arith)
  comparison_typed c.Gt a b e da db few =
      let h = turned a b (wholes_from (kind_of schema a scope) (kind_of schema b scope) e) in
      let n = more_count b a in sum_typed heads_below below_typed (minus b a ++ alone (NumberTerm (pos 1))) (more_are b a h db da) (omega arith)
  comparison_typed c.Eq a b e da db few =
      let h = wholes_from (kind_of schema a scope) (kind_of schema b scope) e in
      let n = minus_count a b in sum_typed heads_zero zero_typed (minus a b) (minus_are a b h da db) (omega arith)
  comparison_typed c.Ne a b e da db few = λ h i. absurd i
  comparison_typed c.Same a b e da db few =
      let s = one_is (kind_of schema a scope) (kind_of schema b scope) e in sides_typed Within a b s.0 (λ t. within_bound t s.0) s.1 s.2 da db
  comparison_typed c.Other a b e da db few =
      let s = one_is (kind_of schema a scope) (kind_of schema b scope) e in sides_typed Without a b s.0 (λ t. without_bound t s.0) s.1 s.2 da db

  -- ---- literals

  negation_over : (o : Comparison) (s : Size) → comparison_over (negation o) s ≡ comparison_over o s
  negation_over c.Le s = refl
  negation_over c.Lt s = refl
  negation_over c.Ge s = refl
  negation_over c.Gt s = refl
  negation_over c.Eq s = refl
  negation_over c.Ne s = refl
  negation_over c.Same s = refl
  negation_over c.Other s = refl

  abbrev typed_at : one.Formula-F Formula Term → Bool
  typed_at x = formula_typed schema (map-Formula Formula Term (List ℕ → Bool) (List ℕ → Option Kind) (is_typed schema) (kind_of schema) x) scope

  abbrev size_at : one.Formula-F Formula Term → Size
  size_at x = formula_size (map-Formula Formula Term Size Size size_of_formula size_of_term x)

  assertion_typed : (x : one.Formula-F Formula Term) (negative : Bool) → typed_at x ≡ true → (size_at x).depth ≤ most_depth
      → (size_at x).widest ≤ most_addends → (h : Head) → In h (heads_of_assertion (assertion_at x negative)) → TypedHead schema scope h
  assertion_typed (one.Compare o a b) false e deep few h i =
      let d = comparison_depth o (beside (size_of_term a) (size_of_term b)) in comparison_typed o a b e (omega arith) (omega arith) few h i
  assertion_typed (one.Compare o a b) true e deep few h i =
      let inner = beside (size_of_term a) (size_of_term b) in
      let d = comparison_depth o inner in
      comparison_typed (negation o) a b (negation_comparable schema scope o (kind_of schema a scope) (kind_of schema b scope) ∙ e) (omega arith) (omega arith)
      (subst (λ (s : Size). s.widest ≤ most_addends) (sym (negation_over o inner)) few) h i
  assertion_typed other negative e deep few h i = absurd i

  abbrev LiteralHeads : Formula → Type 0
  LiteralHeads p = (negative : Bool) → is_typed schema p scope ≡ true → (size_of_formula p).depth ≤ most_depth → (size_of_formula p).widest ≤ most_addends
      → (h : Head) → In h (heads_of_assertion (assertion_of p negative)) → TypedHead schema scope h

  literal_heads : (p : Formula) → LiteralHeads p
  literal_heads p = ind-Formula LiteralHeads (λ _. Unit {0}) (λ x y e. by x) (λ x y e. tt) p
    where
      by : (x : one.Formula-F Formula Term) → LiteralHeads (roll-Formula x)
      by x negative e deep few h i =
          assertion_typed x negative (subst (λ (f : List ℕ → Bool). f scope ≡ true) (is_typed-roll schema x) e)
          (subst (λ (s : Size). s.depth ≤ most_depth) (size_of_formula-roll x) deep) (subst (λ (s : Size). s.widest ≤ most_addends) (size_of_formula-roll x) few)
          h (subst (λ (f : Bool → Assertion). In h (heads_of_assertion (f negative))) (assertion_of-roll x) i)

  -- the heads of a literal that is no wider than comparisons may be
  pub heads_typed : (l : Literal) → is_typed schema l.formula scope ≡ true → (size_of_formula l.formula).depth ≤ most_depth
      → (size_of_formula l.formula).widest ≤ most_addends → (h : Head) → In h (heads_of l) → TypedHead schema scope h
  heads_typed l e deep few h i = literal_heads l.formula l.negative e deep few h i
