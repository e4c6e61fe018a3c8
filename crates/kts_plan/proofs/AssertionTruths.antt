-- What a literal says on a schedule, and what its heads ask there.
use Rattle.std.proofs.Common.{◌≡◌, ◌≢◌, ◌↔◌, refl, sym, ap, ◌∙◌, subst, inl, inr, ⊎_elim, ℕ, zero, suc, ℤ, pos, ◌+ℤ◌, ◌-ℤ◌, ◌≤ℤ◌, List, [], ◌∷◌, ◌++◌, map, fold, int_le, Bool, true, false, not, Option, Some, None, IsTrue, cond, arith}
use Rattle.std.specs.Prelude.{slice_get}
use Rattle.std.specs.List.{enumerate_from}
use Rattle.std.proofs.lemmas.Int.{ints}
use Rattle.kts_spec.specs.declared.schema.Schema.{Schema}
use Rattle.kts_spec.specs.declared.tree.Comparison.{Comparison}
use Rattle.kts_spec.specs.declared.tree.Comparison.TheVariants.{Le, Lt, Ge, Gt, Eq, Ne, Same, Other}
use Rattle.kts_spec.specs.declared.tree.Term.{Term}
use Rattle.kts_spec.specs.declared.tree.Formula.{Formula, roll-Formula}
use Rattle.kts_spec.specs.declared.tree.Formula.TheOpen as one
use Rattle.kts_spec.specs.declared.tree.Formula.TheFolds.{ind-Formula, map-Formula}
use Rattle.kts_spec.specs.Addends.{Sign, Plus, Minus, Addend, other_sign, opposite, negation}
use Rattle.kts_spec.specs.Domain.{comparison_truth, formula_step, at_each}
use Rattle.kts_spec.specs.Meaning.{on_schedule, value_on, truth_on, int_same}
use Rattle.kts_spec.specs.MeaningEquations.{values_on}
use Rattle.kts_spec.specs.Places.{cell, lookup}
use Rattle.kts_spec.specs.Reads.{Access, reads_of}
use Rattle.kts_spec.specs.Related.{AllOf, Related}
use Rattle.kts_spec.specs.Sums.{signed_value, sum_on}
use Rattle.kts_spec.specs.Typing.{Kind, are_comparable, kind_of, is_typed, formula_typed}
use Rattle.kts_spec.specs.Worlds.{World, size_of}
use Rattle.kts_spec.proofs.Meanings.{compared_holds}
use Rattle.kts_spec.proofs.Relations.{related_term}
use Rattle.kts_spec.proofs.Rolls.{is_typed-roll, truth-roll, value-roll}
use Rattle.kts_spec.proofs.SumValues.{sums_decide}
use Rattle.kts_abs.specs.declared.demand.Op.{Op}
use Rattle.kts_abs.specs.declared.demand.Op.TheVariants.{AtLeast, AtMost, Within, Without}
use Rattle.kts_abs.proofs.Listed.{In, each_in, in_each}
use Rattle.kts_clause.specs.declared.literal.Literal.{Literal}
use Rattle.kts_clause.specs.ClauseTruth.{signed, literal_truth}
use Rattle.kts_plan.specs.declared.bound.Bound.{Bound}
use Rattle.kts_plan.specs.declared.bound.Bound.TheVariants.{Rest, Side}
use Rattle.kts_plan.specs.declared.head.Head.{Head}
use Rattle.kts_plan.specs.Asks.{head_cell}
use Rattle.kts_plan.specs.BareAccesses.{bare}
use Rattle.kts_plan.specs.Heads.{all_but, signed_term, is_minus, head_of, rest, op_below, heads_below, heads_zero, heads_of_assertion}
use Rattle.kts_plan.specs.Assertions.{Assertion, AtMostZero, Zero, Alike, Unlike, Opaque, comparison_assertion, assertion_of, assertion_in}
use Rattle.kts_plan.proofs.HeadKinds.{negation_comparable}
use Rattle.kts_plan.proofs.LiteralRolls.{assertion_at, assertion_of-roll, bare_is}
use Rattle.kts_plan.proofs.NumberedItems.{numbered_is, in_left, in_right, in_split}
use Rattle.kts_plan.proofs.UnreadCells.{pairs_same}

-- a number meets an operation with a bound
abbrev pub Fulfils : Op → ℤ → ℤ → Type 0
Fulfils AtLeast b c = b ≤ℤ c
Fulfils AtMost b c = c ≤ℤ b
Fulfils Within b c = c ≡ b
Fulfils Without b c = c ≡ b → ⊥

-- sums of numbers
total_from : (n : ℤ) (xs : List ℤ) → fold ◌+ℤ◌ n xs ≡ n +ℤ fold ◌+ℤ◌ (pos 0) xs
total_from n [] = omega (arith, ints)
total_from n (k ∷ xs) = let a = total_from (n +ℤ k) xs in let b = total_from (pos 0 +ℤ k) xs in omega (arith, ints)

none_some : {X : Type 0} (x : X) → None ≡ Some x → ⊥
none_some x e = cc

some_one : {X : Type 0} (x y : X) → Some x ≡ Some y → x ≡ y
some_one x y e = cc

module _ (w : World) (ns : List ℤ) (vars : List ℕ) where
  abbrev val : Term → ℤ
  val t = value_on w ns t vars

  -- a number with one addend more
  abbrev pub with_signed : ℤ → Bool × Term → ℤ
  with_signed total a = cond a.0 (total -ℤ val a.1) (total +ℤ val a.1)

  -- a bound on the schedule
  abbrev pub bound_on : Bound → ℤ
  bound_on (Rest addends) = fold with_signed (pos 0) addends
  bound_on (Side t) = val t

  abbrev worth : Addend → ℤ
  worth a = signed_value a.sign (val a.term)

  abbrev sum : List Addend → ℤ
  sum xs = sum_on w ns xs vars

  signed_step : (total : ℤ) (a : Addend) → with_signed total (signed_term a) ≡ total +ℤ worth a
  signed_step total a = by a.sign
    where
      by : (s : Sign) → cond (is_minus s) (total -ℤ val a.term) (total +ℤ val a.term) ≡ total +ℤ signed_value s (val a.term)
      by Plus = refl
      by Minus = omega (arith, ints)

  opposite_step : (total : ℤ) (a : Addend) → with_signed total (signed_term (opposite a)) +ℤ worth a ≡ total
  opposite_step total a = by a.sign
    where
      by : (s : Sign) → cond (is_minus (other_sign s)) (total -ℤ val a.term) (total +ℤ val a.term) +ℤ signed_value s (val a.term) ≡ total
      by Plus = omega (arith, ints)
      by Minus = omega (arith, ints)

  sum_cons : (a : Addend) (xs : List Addend) → sum (a ∷ xs) ≡ worth a +ℤ sum xs
  sum_cons a xs = let e = total_from (pos 0 +ℤ worth a) (map worth xs) in omega (arith, ints)

  -- the rest of a sum, and its opposite
  rest_is : (xs : List Addend) (total : ℤ) → fold with_signed total (map signed_term xs) ≡ total +ℤ sum xs
  rest_is [] total = omega (arith, ints)
  rest_is (a ∷ xs) total =
      let ih = rest_is xs (with_signed total (signed_term a)) in
      let s = signed_step total a in
      let c = sum_cons a xs in
      omega (arith, ints)

  opposite_is : (xs : List Addend) (total : ℤ) → fold with_signed total (map (λ a. signed_term (opposite a)) xs) +ℤ sum xs ≡ total
  opposite_is [] total = omega (arith, ints)
  opposite_is (a ∷ xs) total =
      let ih = opposite_is xs (with_signed total (signed_term (opposite a))) in
      let s = opposite_step total a in
      let c = sum_cons a xs in
      omega (arith, ints)

  -- an addend and the others
  sum_split : (xs : List Addend) (i : ℕ) (a : Addend) → slice_get xs i ≡ Some a → sum xs ≡ worth a +ℤ sum (all_but i xs)
  sum_split [] i a e = absurd (none_some a e)
  sum_split (x ∷ xs) zero a e = sum_cons x xs ∙ ap (λ z. worth z +ℤ sum xs) (some_one x a e)
  sum_split (x ∷ xs) (suc i) a e =
      let ih = sum_split xs i a e in
      let c = sum_cons x xs in
      let d = sum_cons x (all_but i xs) in
      omega (arith, ints)

  -- ---- what literals say

  abbrev pub AssertionHolds : Assertion → Type 0
  AssertionHolds (AtMostZero xs) = sum xs ≤ℤ pos 0
  AssertionHolds (Zero xs) = sum xs ≡ pos 0
  AssertionHolds (Alike a b) = val a ≡ val b
  AssertionHolds (Unlike a b) = val a ≢ val b
  AssertionHolds Opaque = Unit {0}

  abbrev pub AssertionIs : Assertion → Bool → Type 0
  AssertionIs (AtMostZero xs) b = IsTrue b ↔ AssertionHolds (AtMostZero xs)
  AssertionIs (Zero xs) b = IsTrue b ↔ AssertionHolds (Zero xs)
  AssertionIs (Alike x y) b = IsTrue b ↔ AssertionHolds (Alike x y)
  AssertionIs (Unlike x y) b = IsTrue b ↔ AssertionHolds (Unlike x y)
  AssertionIs Opaque b = Unit {0}

  abbrev compares : Comparison → ℤ → ℤ → Bool
  compares = comparison_truth (size_of w) (on_schedule w ns)

  both_ways : (P Q R : Type 0) → P ↔ Q → Q ↔ R → P ↔ R
  both_ways P Q R f g = (λ p. g.0 (f.0 p), λ r. f.1 (g.1 r))

  comparison_is : (schema : Schema) (scope : List ℕ) (c : Comparison) (a b : Term) → are_comparable c (kind_of schema a scope) (kind_of schema b scope) ≡ true → AssertionIs (comparison_assertion c a b) (compares c (val a) (val b))
  comparison_is schema scope Le a b e = both_ways _ _ _ (compared_holds w ns Le (val a) (val b)) (sums_decide schema scope a b e w ns vars).at_most
  comparison_is schema scope Lt a b e = both_ways _ _ _ (compared_holds w ns Lt (val a) (val b)) (sums_decide schema scope a b e w ns vars).less
  comparison_is schema scope Ge a b e = both_ways _ _ _ (compared_holds w ns Ge (val a) (val b)) (sums_decide schema scope a b e w ns vars).at_least
  comparison_is schema scope Gt a b e = both_ways _ _ _ (compared_holds w ns Gt (val a) (val b)) (sums_decide schema scope a b e w ns vars).greater
  comparison_is schema scope Eq a b e = both_ways _ _ _ (compared_holds w ns Eq (val a) (val b)) (sums_decide schema scope a b e w ns vars).equal
  comparison_is schema scope Ne a b e = tt
  comparison_is schema scope Same a b e = compared_holds w ns Same (val a) (val b)
  comparison_is schema scope Other a b e = compared_holds w ns Other (val a) (val b)

  not_not : (b : Bool) → not (not b) ≡ b
  not_not true = refl
  not_not false = refl

  negation_is : (c : Comparison) (a b : ℤ) → compares (negation c) a b ≡ not (compares c a b)
  negation_is Le a b = refl
  negation_is Lt a b = sym (not_not (int_le b a))
  negation_is Ge a b = refl
  negation_is Gt a b = sym (not_not (int_le a b))
  negation_is Eq a b = refl
  negation_is Ne a b = sym (not_not (int_same a b))
  negation_is Same a b = refl
  negation_is Other a b = sym (not_not (int_same a b))

  module _ (schema : Schema) (scope : List ℕ) where
    abbrev typed_at : one.Formula-F Formula Term → Bool
    typed_at x = formula_typed schema (map-Formula Formula Term (List ℕ → Bool) (List ℕ → Option Kind) (is_typed schema) (kind_of schema) x) scope

    abbrev truth_at : one.Formula-F Formula Term → Bool
    truth_at x = formula_step (size_of w) (on_schedule w ns) (map-Formula Formula Term (List ℕ → Bool) (List ℕ → ℤ) (truth_on w ns) (value_on w ns) x) vars

    assertion_case : (x : one.Formula-F Formula Term) (negative : Bool) → typed_at x ≡ true → AssertionIs (assertion_at x negative) (signed (size_of w) (on_schedule w ns) negative (truth_at x))
    assertion_case (one.Compare c a b) false e = comparison_is schema scope c a b e
    assertion_case (one.Compare c a b) true e =
        subst (AssertionIs (comparison_assertion (negation c) a b)) (negation_is c (val a) (val b))
        (comparison_is schema scope (negation c) a b (negation_comparable schema scope c (kind_of schema a scope) (kind_of schema b scope) ∙ e))
    assertion_case other negative e = tt

    abbrev HasAssertion : Formula → Type 0
    HasAssertion p = (negative : Bool) → is_typed schema p scope ≡ true → AssertionIs (assertion_of p negative) (signed (size_of w) (on_schedule w ns) negative (truth_on w ns p vars))

    has_assertion : (p : Formula) → HasAssertion p
    has_assertion p = ind-Formula HasAssertion (λ _. Unit {0}) (λ x y e. by x) (λ x y e. tt) p
      where
        by : (x : one.Formula-F Formula Term) → HasAssertion (roll-Formula x)
        by x negative e =
            rw (assertion_of-roll x, truth-roll (size_of w) (on_schedule w ns) x)
            (assertion_case x negative (subst (λ (f : List ℕ → Bool). f scope ≡ true) (is_typed-roll schema x) e))

    -- a literal is true exactly where what it says holds
    pub literal_is : (l : Literal) → is_typed schema l.formula scope ≡ true → AssertionIs (assertion_in l) (literal_truth (size_of w) (on_schedule w ns) vars l)
    literal_is l e = has_assertion l.formula l.negative e

  -- ---- heads

  -- meanings on two schedules differ in accesses to choices alone
  but_choices : Related (size_of w) (on_schedule w ns) (on_schedule w []) (λ a b. a ≡ b) (λ p q. p ≡ q) (λ _. Unit {0}) (λ _. ⊥)
  but_choices = record {
    number = λ n. refl;
    member = λ m. refl;
    given = λ f xs ys k. rw (pairs_same xs ys k) refl;
    choice = λ x args vars s m k. absurd m;
    deeper = λ vars m s. tt;
    add = λ a b p q h k. rw (h, k) refl;
    sub = λ a b p q h k. rw (h, k) refl;
    mul = λ a b p q h k. rw (h, k) refl;
    least = λ a b p q h k. rw (h, k) refl;
    greatest = λ a b p q h k. rw (h, k) refl;
    gate = λ a b p q h k. rw (h, k) refl;
    le = λ a b p q h k. rw (h, k) refl;
    eq = λ a b p q h k. rw (h, k) refl;
    same = λ a b p q h k. rw (h, k) refl;
    yes = refl;
    no = refl;
    both = λ a b p q h k. rw (h, k) refl;
    either = λ a b p q h k. rw (h, k) refl;
    neg = λ p r h. rw h refl;
  }

  pub fixed_value : (t : Term) → reads_of t ≡ [] → val t ≡ value_on w [] t vars
  fixed_value t e = related_term (size_of w) (on_schedule w ns) (on_schedule w []) (λ a b. a ≡ b) (λ p q. p ≡ q) (λ _. Unit {0}) (λ _. ⊥) but_choices t vars tt (subst (AllOf (λ _. ⊥)) (sym e) tt)

  fixed_values : (ts : List Term) → AllOf (λ u. reads_of u ≡ []) ts → at_each vars (map (value_on w ns) ts) ≡ values_on w [] ts vars
  fixed_values [] h = refl
  fixed_values (t ∷ ts) h = let a = fixed_value t h.0 in let b = fixed_values ts h.1 in cc

  -- the value of a head's cell
  abbrev pub head_value : Head → ℤ
  head_value h = lookup ns (head_cell w vars h) (pos 0)

  -- what a head asks, on the schedule
  abbrev pub IsKept : Head → Type 0
  IsKept h = Fulfils h.op (bound_on h.bound) (head_value h)

  bare_value : (t : Term) (a : Access) → bare t ≡ Some a → val t ≡ lookup ns (cell w a.0 (values_on w [] a.1 vars)) (pos 0)
  bare_value t a e =
      let is = bare_is t a e in
      sym (ap val is.whole) ∙ ap (λ (f : List ℕ → ℤ). f vars) (value-roll (size_of w) (on_schedule w ns) (one.Choice a.0 a.1))
      ∙ ap (λ l. lookup ns (cell w a.0 l) (pos 0)) (fixed_values a.1 is.fixed)

  head_kept : (op : Op) (b : Bound) (t : Term) (h : Head) (o : Option Access) → bare t ≡ o → In h (head_of op b o) → Fulfils op (bound_on b) (val t) → IsKept h
  head_kept op b t h None e i f = absurd i
  head_kept op b t h (Some a) e (inr i) f = absurd i
  head_kept op b t h (Some a) e (inl i) f = subst IsKept (sym i) (subst (Fulfils op (bound_on b)) (bare_value t a e) f)

  kept_head : (op : Op) (b : Bound) (t : Term) (h : Head) (o : Option Access) → bare t ≡ o → In h (head_of op b o) → IsKept h → Fulfils op (bound_on b) (val t)
  kept_head op b t h None e i f = absurd i
  kept_head op b t h (Some a) e (inr i) f = absurd i
  kept_head op b t h (Some a) e (inl i) f = subst (Fulfils op (bound_on b)) (sym (bare_value t a e)) (subst IsKept i f)

  abbrev in_sum : (Addend → List Addend → List Head) → List Addend → ℕ × Addend → List Head
  in_sum heads xs numbered = heads numbered.1 (all_but numbered.0 xs)

  -- where a literal is true, each of its heads is kept
  below_kept : (a : Addend) (others : List Addend) (h : Head) → (worth a +ℤ sum others) ≤ℤ pos 0 → In h (heads_below a others) → IsKept h
  below_kept a others h le i = by a.sign le i
    where
      by : (s : Sign) → (signed_value s (val a.term) +ℤ sum others) ≤ℤ pos 0 → In h (head_of (op_below s) (rest s others) (bare a.term)) → IsKept h
      by Plus le i = let o = opposite_is others (pos 0) in head_kept AtMost (rest Plus others) a.term h (bare a.term) refl i (omega (arith, ints))
      by Minus le i = let o = rest_is others (pos 0) in head_kept AtLeast (rest Minus others) a.term h (bare a.term) refl i (omega (arith, ints))

  zero_kept : (a : Addend) (others : List Addend) (h : Head) → worth a +ℤ sum others ≡ pos 0 → In h (heads_zero a others) → IsKept h
  zero_kept a others h e i = by a.sign e i
    where
      by : (s : Sign) → signed_value s (val a.term) +ℤ sum others ≡ pos 0 → In h (head_of AtLeast (rest s others) (bare a.term) ++ head_of AtMost (rest s others) (bare a.term)) → IsKept h
      by Plus e i =
          let o = opposite_is others (pos 0) in
          ⊎_elim
          (λ j. head_kept AtLeast (rest Plus others) a.term h (bare a.term) refl j (omega (arith, ints)))
          (λ j. head_kept AtMost (rest Plus others) a.term h (bare a.term) refl j (omega (arith, ints)))
          (in_split h (head_of AtLeast (rest Plus others) (bare a.term)) (head_of AtMost (rest Plus others) (bare a.term)) i)
      by Minus e i =
          let o = rest_is others (pos 0) in
          ⊎_elim
          (λ j. head_kept AtLeast (rest Minus others) a.term h (bare a.term) refl j (omega (arith, ints)))
          (λ j. head_kept AtMost (rest Minus others) a.term h (bare a.term) refl j (omega (arith, ints)))
          (in_split h (head_of AtLeast (rest Minus others) (bare a.term)) (head_of AtMost (rest Minus others) (bare a.term)) i)

  pub true_kept : (f : Assertion) (h : Head) → In h (heads_of_assertion f) → AssertionHolds f → IsKept h
  true_kept (AtMostZero xs) h i e =
      let p = each_in (in_sum heads_below xs) h (enumerate_from 0 xs) i in
      let n = numbered_is 0 xs p.item p.held in
      let at : n.place ≡ p.item.0 = (let k = n.number in omega arith) in
      below_kept p.item.1 (all_but p.item.0 xs) h (subst (λ z. z ≤ℤ pos 0) (sum_split xs p.item.0 p.item.1 (ap (slice_get xs) (sym at) ∙ n.is)) e) p.is
  true_kept (Zero xs) h i e =
      let p = each_in (in_sum heads_zero xs) h (enumerate_from 0 xs) i in
      let n = numbered_is 0 xs p.item p.held in
      let at : n.place ≡ p.item.0 = (let k = n.number in omega arith) in
      zero_kept p.item.1 (all_but p.item.0 xs) h (sym (sum_split xs p.item.0 p.item.1 (ap (slice_get xs) (sym at) ∙ n.is)) ∙ e) p.is
  true_kept (Alike a b) h i e =
      ⊎_elim
      (λ j. head_kept Within (Side b) a h (bare a) refl j e)
      (λ j. head_kept Within (Side a) b h (bare b) refl j (sym e))
      (in_split h (head_of Within (Side b) (bare a)) (head_of Within (Side a) (bare b)) i)
  true_kept (Unlike a b) h i e =
      ⊎_elim
      (λ j. head_kept Without (Side b) a h (bare a) refl j e)
      (λ j. head_kept Without (Side a) b h (bare b) refl j (λ q. e (sym q)))
      (in_split h (head_of Without (Side b) (bare a)) (head_of Without (Side a) (bare b)) i)
  true_kept Opaque h i e = absurd i

  -- and where there is a head and all are kept, it is true
  kept_below : (a : Addend) (others : List Addend) (h : Head) → In h (heads_below a others) → IsKept h → (worth a +ℤ sum others) ≤ℤ pos 0
  kept_below a others h i k = by a.sign i
    where
      by : (s : Sign) → In h (head_of (op_below s) (rest s others) (bare a.term)) → (signed_value s (val a.term) +ℤ sum others) ≤ℤ pos 0
      by Plus i = let o = opposite_is others (pos 0) in let f = kept_head AtMost (rest Plus others) a.term h (bare a.term) refl i k in omega (arith, ints)
      by Minus i = let o = rest_is others (pos 0) in let f = kept_head AtLeast (rest Minus others) a.term h (bare a.term) refl i k in omega (arith, ints)

  -- a head with another operation stands where one stands
  other_head : (op op2 : Op) (b c : Bound) (h : Head) (o : Option Access) → In h (head_of op b o) → (g : Head) × In g (head_of op2 c o)
  other_head op op2 b c h None i = absurd i
  other_head op op2 b c h (Some a) i = (record { choice = a.0; args = a.1; op = op2; bound = c }, inl refl)

  both_heads : (b : Bound) (h : Head) (o : Option Access) → In h (head_of AtLeast b o ++ head_of AtMost b o) → ((g : Head) × In g (head_of AtLeast b o)) × ((g : Head) × In g (head_of AtMost b o))
  both_heads b h o i =
      ⊎_elim
      (λ j. (other_head AtLeast AtLeast b b h o j, other_head AtLeast AtMost b b h o j))
      (λ j. (other_head AtMost AtLeast b b h o j, other_head AtMost AtMost b b h o j))
      (in_split h (head_of AtLeast b o) (head_of AtMost b o) i)

  kept_zero : (a : Addend) (others : List Addend) (h : Head) → In h (heads_zero a others) → ((g : Head) → In g (heads_zero a others) → IsKept g) → worth a +ℤ sum others ≡ pos 0
  kept_zero a others h i k =
      let r = rest a.sign others in
      let both = both_heads r h (bare a.term) i in
      let low = kept_head AtLeast r a.term both.0.0 (bare a.term) refl both.0.1 (k both.0.0 (in_left both.0.0 (head_of AtLeast r (bare a.term)) (head_of AtMost r (bare a.term)) both.0.1)) in
      let high = kept_head AtMost r a.term both.1.0 (bare a.term) refl both.1.1 (k both.1.0 (in_right both.1.0 (head_of AtLeast r (bare a.term)) (head_of AtMost r (bare a.term)) both.1.1)) in
      by a.sign low high
    where
      by : (s : Sign) → bound_on (rest s others) ≤ℤ val a.term → val a.term ≤ℤ bound_on (rest s others) → signed_value s (val a.term) +ℤ sum others ≡ pos 0
      by Plus l h = let o = opposite_is others (pos 0) in omega (arith, ints)
      by Minus l h = let o = rest_is others (pos 0) in omega (arith, ints)

  pub kept_true : (f : Assertion) (h : Head) → In h (heads_of_assertion f) → ((g : Head) → In g (heads_of_assertion f) → IsKept g) → AssertionHolds f
  kept_true (AtMostZero xs) h i k =
      let p = each_in (in_sum heads_below xs) h (enumerate_from 0 xs) i in
      let n = numbered_is 0 xs p.item p.held in
      let at : n.place ≡ p.item.0 = (let k = n.number in omega arith) in
      subst (λ z. z ≤ℤ pos 0) (sym (sum_split xs p.item.0 p.item.1 (ap (slice_get xs) (sym at) ∙ n.is))) (kept_below p.item.1 (all_but p.item.0 xs) h p.is (k h i))
  kept_true (Zero xs) h i k =
      let p = each_in (in_sum heads_zero xs) h (enumerate_from 0 xs) i in
      let n = numbered_is 0 xs p.item p.held in
      let at : n.place ≡ p.item.0 = (let k = n.number in omega arith) in
      sum_split xs p.item.0 p.item.1 (ap (slice_get xs) (sym at) ∙ n.is)
      ∙ kept_zero p.item.1 (all_but p.item.0 xs) h p.is (λ g j. k g (in_each (in_sum heads_zero xs) p.item g (enumerate_from 0 xs) p.held j))
  kept_true (Alike a b) h i k =
      ⊎_elim
      (λ j. kept_head Within (Side b) a h (bare a) refl j (k h i))
      (λ j. sym (kept_head Within (Side a) b h (bare b) refl j (k h i)))
      (in_split h (head_of Within (Side b) (bare a)) (head_of Within (Side a) (bare b)) i)
  kept_true (Unlike a b) h i k =
      ⊎_elim
      (λ j. kept_head Without (Side b) a h (bare a) refl j (k h i))
      (λ j q. kept_head Without (Side a) b h (bare b) refl j (k h i) (sym q))
      (in_split h (head_of Without (Side b) (bare a)) (head_of Without (Side a) (bare b)) i)
  kept_true Opaque h i k = tt
