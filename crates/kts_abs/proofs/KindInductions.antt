-- The values of well typed terms in a domain whose operations keep kinds, by one induction.
use Rattle.std.proofs.Common.{◌≡◌, sym, subst, ℕ, suc, ◌+◌, ◌<◌, ◌≤◌, List, [], ◌∷◌, ◌++◌, length, map, fold, Bool, true, Option, Some, slice_get, slice_index, ℤ, pos, ◌+ℤ◌, ◌*ℤ◌, ◌≤ℤ◌, arith}
use Rattle.std.specs.List.{range_with_len}
use Rattle.std.specs.Int.{int_min, int_max}
use Rattle.std.proofs.lemmas.Int.{ints, clamps}
use Rattle.std.proofs.lemmas.List.FromFn.{length-map-range_with_len}
use Rattle.std.proofs.Math.IntN.{suc_ℤ-*ℤ}
use Rattle.kts_base.specs.Limits.{most_members}
use Rattle.kts_spec.specs.declared.declarations.Family.{Family}
use Rattle.kts_spec.specs.declared.schema.Schema.{Schema}
use Rattle.kts_spec.specs.declared.tree.Term.{Term, roll-Term}
use Rattle.kts_spec.specs.declared.tree.Formula.{Formula}
use Rattle.kts_spec.specs.declared.tree.Formula.TheOpen as one
use Rattle.kts_spec.specs.declared.tree.Formula.TheFolds.{map-Term}
use Rattle.kts_spec.specs.Domain.{Domain, at_each, of_two, term_step, value, truth}
use Rattle.kts_spec.specs.Ranges.{Range, one_number, sum_range, total_range, difference_range, product_range, least_range, greatest_range, sum_over_range}
use Rattle.kts_spec.specs.Related.{Pairs, AllOf}
use Rattle.kts_spec.specs.TypedValues.{InScope}
use Rattle.kts_spec.specs.Typing.{Kind, Whole, MemberOf, whole_within, ranges, two_wholes, kind_of_type, are_members, kind_of, is_typed, term_kind}
use Rattle.kts_spec.specs.Worlds.{World, size_of}
use Rattle.kts_spec.proofs.Inductions.{FormulaPart, Part, terms, bare, by_terms}
use Rattle.kts_spec.proofs.KindParts.{if_some, then_some, map_some, IsWhole, whole_of_some, WholeIs, whole_within_some, ranges_some, two_wholes_some, kind_of_use_some}
use Rattle.kts_spec.proofs.Products.{falls, rises}
use Rattle.kts_spec.proofs.Rolls.{kind_of-roll, value-roll}
use Rattle.kts_spec.proofs.TypedData.{range_all, map_all}
use Rattle.kts_spec.proofs.ValueRanges.{with_zero}
use Rattle.kts_abs.proofs.ScopeMembers.{variable_in, scope_more, first_member}

-- each operation gives a value of the kind that typing gives to the term
pub record KeepsKinds {T B : Type 0} (schema : Schema) (w : World) (d : Domain T B) (Of : Kind → T → Type 0) : Type 0 where
  pub few : (i : ℕ) → size_of w i ≤ most_members
  pub number : (n : ℤ) → Of (Whole (one_number n)) (d.number n)
  pub member : (i m : ℕ) → m < size_of w i → Of (MemberOf i) (d.member m)
  pub given : (f : ℕ) (family : Family) (args : List T) → slice_get schema.givens f ≡ Some family
      → Pairs (λ i x. Of (MemberOf i) x) family.args args → Of (kind_of_type family.kind) (d.given f args)
  pub choice : (x : ℕ) (family : Family) (args : List T) → slice_get schema.choices x ≡ Some family
      → Pairs (λ i x. Of (MemberOf i) x) family.args args → Of (kind_of_type family.kind) (d.choice x args)
  pub add : (v u : Range) (a b : T) → Of (Whole v) a → Of (Whole u) b → Of (Whole (sum_range v u)) (d.add a b)
  pub sub : (v u : Range) (a b : T) → Of (Whole v) a → Of (Whole u) b → Of (Whole (difference_range v u)) (d.sub a b)
  pub mul : (v u : Range) (a b : T) → Of (Whole v) a → Of (Whole u) b → Of (Whole (product_range v u)) (d.mul a b)
  pub least : (v u : Range) (a b : T) → Of (Whole v) a → Of (Whole u) b → Of (Whole (least_range v u)) (d.least a b)
  pub greatest : (v u : Range) (a b : T) → Of (Whole v) a → Of (Whole u) b → Of (Whole (greatest_range v u)) (d.greatest a b)
  pub gate : (p : B) (v : Range) (a : T) → Of (Whole v) a → Of (Whole (with_zero v)) (d.gate p a)
  -- a range may be taken wider
  pub wider : (v u : Range) (a : T) → u.0 ≤ℤ v.0 → v.1 ≤ℤ u.1 → Of (Whole v) a → Of (Whole u) a

-- so many times a range
abbrev times : ℕ → Range → Range
times n r = (pos n *ℤ r.0, pos n *ℤ r.1)

one_more : (n : ℕ) (k : ℤ) → pos (suc n) *ℤ k ≡ pos n *ℤ k +ℤ k
one_more n k = suc_ℤ-*ℤ (pos n) k

-- at most as many addends as an index may have members
low_times : (n : ℕ) (r : Range) → n ≤ most_members → (pos most_members *ℤ int_min r.0 (pos 0)) ≤ℤ (pos n *ℤ int_min r.0 (pos 0))
low_times n r few = falls (pos n) (pos most_members) (int_min r.0 (pos 0)) (omega (arith, ints)) (omega (arith, ints, clamps))

high_times : (n : ℕ) (r : Range) → n ≤ most_members → (pos n *ℤ int_max r.1 (pos 0)) ≤ℤ (pos most_members *ℤ int_max r.1 (pos 0))
high_times n r few = rises (pos n) (pos most_members) (int_max r.1 (pos 0)) (omega (arith, ints)) (omega (arith, ints, clamps))

module _ {T B : Type 0} (schema : Schema) (w : World) (d : Domain T B) (Of : Kind → T → Type 0) (keeps : KeepsKinds schema w d Of) where
  abbrev value_at : Term → List ℕ → T
  value_at = value (size_of w) d

  abbrev truth_at : Formula → List ℕ → B
  truth_at = truth (size_of w) d

  -- in each scope that types the term, its value is of its kind
  abbrev Keeps : Term → Type 0
  Keeps t = (scope vars : List ℕ) (k : Kind) → InScope w scope vars → kind_of schema t scope ≡ Some k → Of k (value_at t vars)

  abbrev kinds : List (Part Keeps) → List ℕ → List (Option Kind)
  kinds parts scope = at_each scope (map (kind_of schema) (terms Keeps parts))

  abbrev values : List (Part Keeps) → List ℕ → List T
  values parts vars = at_each vars (map value_at (terms Keeps parts))

  whole_is : (r : Range) (k : Kind) (x : T) → WholeIs r k → Of (Whole r) x → Of k x
  whole_is r k x is h = subst (λ (l : Kind). Of l x) (sym is.is) h

  -- arguments that are members by their kinds are members
  args_in : (args : List (Part Keeps)) (is scope vars : List ℕ) → InScope w scope vars → are_members is (kinds args scope) ≡ true
      → Pairs (λ i x. Of (MemberOf i) x) is (values args vars)
  args_in [] [] scope vars h e = tt
  args_in [] (i ∷ is) scope vars h e = cc
  args_in (p ∷ args) [] scope vars h e = cc
  args_in (p ∷ args) (i ∷ is) scope vars h e =
      let m = first_member i is (kind_of schema p.0 scope) (kinds args scope) e in
      (p.1 scope vars (MemberOf i) h m.first, args_in args is scope vars h m.others)

  -- a sum of several terms
  sum_keeps : (parts : List (Part Keeps)) (scope vars : List ℕ) (rs : List Range) (start : Range) (x : T) → InScope w scope vars
      → Pairs IsWhole (kinds parts scope) rs → Of (Whole start) x → Of (Whole (fold sum_range start rs)) (fold d.add x (values parts vars))
  sum_keeps [] scope vars [] start x s h l = l
  sum_keeps [] scope vars (r ∷ rs) start x s h l = absurd h
  sum_keeps (p ∷ parts) scope vars [] start x s h l = absurd h
  sum_keeps (p ∷ parts) scope vars (r ∷ rs) start x s h l =
      let v = value_at p.0 vars in
      sum_keeps parts scope vars rs (sum_range start r) (d.add x v) s h.1 (keeps.add start r x v l (p.1 scope vars (Whole r) s h.0))

  -- an operation on two numbers
  abbrev KeepsTwo : (Range → Range → Range) → (T → T → T) → Type 0
  KeepsTwo f g = (v u : Range) (a b : T) → Of (Whole v) a → Of (Whole u) b → Of (Whole (f v u)) (g a b)

  two_are : (f : Range → Range → Range) (g : T → T → T) (z : T) (parts : List (Part Keeps)) (scope vars : List ℕ) (v u : Range)
      → KeepsTwo f g → InScope w scope vars → Pairs IsWhole (kinds parts scope) (v ∷ u ∷ []) → Of (Whole (f v u)) (of_two g z (values parts vars))
  two_are f g z [] scope vars v u r s h = absurd h
  two_are f g z (p ∷ []) scope vars v u r s h = absurd h.1
  two_are f g z (p ∷ q ∷ []) scope vars v u r s h =
      r v u (value_at p.0 vars) (value_at q.0 vars) (p.1 scope vars (Whole v) s h.0) (q.1 scope vars (Whole u) s h.1.0)
  two_are f g z (p ∷ q ∷ (t ∷ parts)) scope vars v u r s h = absurd h.1.1

  two_keep : (f : Range → Range → Range) (g : T → T → T) (parts : List (Part Keeps)) (scope vars : List ℕ) (k : Kind)
      → KeepsTwo f g → InScope w scope vars → two_wholes f (kinds parts scope) ≡ Some k → Of k (of_two g (d.number (pos 0)) (values parts vars))
  two_keep f g parts scope vars k r s e =
      let t = two_wholes_some f (kinds parts scope) k e in
      whole_is (f t.left t.right) k _ t.gives (two_are f g (d.number (pos 0)) parts scope vars t.left t.right r s t.are)

  -- a sum of so many numbers of one range
  addends_keep : (n : ℕ) (xs : List T) (r : Range) (x : T) → Of (Whole (times n r)) x → AllOf (Of (Whole r)) xs
      → Of (Whole (times (n + length xs) r)) (fold d.add x xs)
  addends_keep n [] r x h k = let e : n ≡ n + 0 = omega arith in subst (λ m. Of (Whole (times m r)) x) e h
  addends_keep n (y ∷ xs) r x h k =
      let l = one_more n r.0 in let u = one_more n r.1 in
      let next : Of (Whole (times (suc n) r)) (d.add x y) =
      keeps.wider (sum_range (times n r) r) (times (suc n) r) (d.add x y) (omega (arith, ints)) (omega (arith, ints)) (keeps.add (times n r) r x y h k.0) in
      let e : suc n + length xs ≡ n + suc (length xs) = omega arith in
      subst (λ m. Of (Whole (times m r)) (fold d.add (d.add x y) xs)) e (addends_keep (suc n) xs r (d.add x y) next k.1)

  none_yet : (r : Range) → Of (Whole (times 0 r)) (d.number (pos 0))
  none_yet r = keeps.wider (pos 0, pos 0) (times 0 r) (d.number (pos 0)) (omega (arith, ints)) (omega (arith, ints)) (keeps.number (pos 0))

  -- an addend of a sum over the members of an index
  abbrev addend : Formula → Term → List ℕ → ℕ → T
  addend p t vars m = d.gate (truth_at p (vars ++ m ∷ [])) (value_at t (vars ++ m ∷ []))

  -- such a sum
  over_keeps : (i : ℕ) (p : Formula) (a : Part Keeps) (scope vars : List ℕ) (r : Range) → InScope w scope vars
      → IsWhole (kind_of schema a.0 (scope ++ i ∷ [])) r
      → Of (Whole (sum_over_range r)) (fold d.add (d.number (pos 0)) (map (addend p a.0 vars) (range_with_len 0 (size_of w i))))
  over_keeps i p a scope vars r s h =
      let xs : List T = map (addend p a.0 vars) (range_with_len 0 (size_of w i)) in
      let count : length xs ≡ size_of w i = length-map-range_with_len (addend p a.0 vars) 0 (size_of w i) in
      let few : length xs ≤ most_members = subst (λ n. n ≤ most_members) (sym count) (keeps.few i) in
      let each = map_all (Of (Whole (with_zero r))) (addend p a.0 vars) (range_with_len 0 (size_of w i))
      (range_all _ 0 (size_of w i) (λ m l u. at m (omega arith))) in
      keeps.wider (times (0 + length xs) (with_zero r)) (sum_over_range r) (fold d.add (d.number (pos 0)) xs)
      (low_times (0 + length xs) r (omega arith)) (high_times (0 + length xs) r (omega arith))
      (addends_keep 0 xs (with_zero r) (d.number (pos 0)) (none_yet (with_zero r)) each)
    where
      at : (m : ℕ) → m < size_of w i → Of (Whole (with_zero r)) (addend p a.0 vars m)
      at m l =
          keeps.gate (truth_at p (vars ++ m ∷ [])) r (value_at a.0 (vars ++ m ∷ []))
          (a.1 (scope ++ i ∷ []) (vars ++ m ∷ []) (Whole r) (scope_more w scope vars i m s l) h)

  keeps_case : (y : one.Term-F FormulaPart (Part Keeps)) (scope vars : List ℕ) (k : Kind) → InScope w scope vars
      → term_kind schema (map-Term Formula Term (List ℕ → Bool) (List ℕ → Option Kind) (is_typed schema) (kind_of schema) (bare Keeps y)) scope ≡ Some k
      → Of k (term_step (size_of w) d (map-Term Formula Term (List ℕ → B) (List ℕ → T) truth_at value_at (bare Keeps y)) vars)
  keeps_case (one.Number n) scope vars k s e = whole_is (n, n) k _ (whole_within_some (n, n) k e) (keeps.number n)
  keeps_case (one.Var j) scope vars k s e =
      let m = map_some MemberOf (slice_get scope j) k e in
      subst (λ (l : Kind). Of l (d.member (slice_index vars j))) m.2 (keeps.member m.0 (slice_index vars j) (variable_in w scope vars j m.0 s m.1))
  keeps_case (one.Given f args) scope vars k s e =
      let u = kind_of_use_some (slice_get schema.givens f) (kinds args scope) k e in
      let members = args_in args u.family.args scope vars s u.members in
      subst (λ (l : Kind). Of l (d.given f (values args vars))) u.is (keeps.given f u.family (values args vars) u.there members)
  keeps_case (one.Choice x args) scope vars k s e =
      let u = kind_of_use_some (slice_get schema.choices x) (kinds args scope) k e in
      let members = args_in args u.family.args scope vars s u.members in
      subst (λ (l : Kind). Of l (d.choice x (values args vars))) u.is (keeps.choice x u.family (values args vars) u.there members)
  keeps_case (one.Add parts) scope vars k s e =
      let few = if_some _ _ k e in
      let all = then_some (λ rs. whole_within (total_range rs)) (ranges (kinds parts scope)) k few.1 in
      whole_is (total_range all.0) k _ (whole_within_some (total_range all.0) k all.2)
      (sum_keeps parts scope vars all.0 (pos 0, pos 0) (d.number (pos 0)) s (ranges_some (kinds parts scope) all.0 all.1) (keeps.number (pos 0)))
  keeps_case (one.Sub parts) scope vars k s e = two_keep difference_range d.sub parts scope vars k keeps.sub s e
  keeps_case (one.Mul parts) scope vars k s e = two_keep product_range d.mul parts scope vars k keeps.mul s e
  keeps_case (one.Min parts) scope vars k s e = two_keep least_range d.least parts scope vars k keeps.least s e
  keeps_case (one.Max parts) scope vars k s e = two_keep greatest_range d.greatest parts scope vars k keeps.greatest s e
  keeps_case (one.Sum i p a) scope vars k s e =
      let bound = if_some _ _ k e in
      let of = then_some (λ r. whole_within (sum_over_range r)) _ k bound.1 in
      let known = whole_of_some (kind_of schema a.0 (scope ++ i ∷ [])) of.0 of.1 in
      whole_is (sum_over_range of.0) k _ (whole_within_some (sum_over_range of.0) k of.2) (over_keeps i p.0 a scope vars of.0 s known)

  keeps_all : (y : one.Term-F FormulaPart (Part Keeps)) → Keeps (roll-Term (bare Keeps y))
  keeps_all y scope vars k s e =
      rw (value-roll (size_of w) d (bare Keeps y))
      (keeps_case y scope vars k s (subst (λ (f : List ℕ → Option Kind). f scope ≡ Some k) (kind_of-roll schema (bare Keeps y)) e))

  -- every well typed term has a value of its kind
  pub kinds_are_kept : (t : Term) (scope vars : List ℕ) (k : Kind) → InScope w scope vars → kind_of schema t scope ≡ Some k → Of k (value (size_of w) d t vars)
  kinds_are_kept t = by_terms Keeps keeps_all t
