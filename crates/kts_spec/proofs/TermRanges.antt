-- The range of a term is not empty, and both its ends lie within the limit on numbers.
use Rattle.std.proofs.Common.{◌≡◌, sym, subst, ℕ, zero, suc, List, [], ◌∷◌, ◌++◌, length, map, fold, Bool, true, ◌&&◌, Option, Some, slice_get, ℤ, pos, neg_ℤ, ◌≤ℤ◌, ◌*ℤ◌, int_le, nat_le, arith}
use Rattle.std.specs.List.{list_all}
use Rattle.std.specs.Int.{int_min, int_max}
use Rattle.std.proofs.lemmas.Bool.{and_parts}
use Rattle.std.proofs.lemmas.Int.{ints, clamps}
use Rattle.kts_spec.specs.declared.declarations.ValueType.{ValueType}
use Rattle.kts_spec.specs.declared.declarations.ValueType.TheVariants.{Int, Member}
use Rattle.kts_spec.specs.declared.declarations.Family.{Family}
use Rattle.kts_base.specs.Limits.{most_number, most_type_end}
use Rattle.kts_spec.specs.declared.schema.Schema.{Schema}
use Rattle.kts_spec.specs.declared.tree.Term.{Term, roll-Term}
use Rattle.kts_spec.specs.declared.tree.Formula.{Formula}
use Rattle.kts_spec.specs.declared.tree.Formula.TheOpen as one
use Rattle.kts_spec.specs.declared.tree.Formula.TheFolds.{map-Term}
use Rattle.kts_spec.specs.Domain.{at_each}
use Rattle.kts_spec.specs.Ranges.{Range, sum_range, total_range, difference_range, product_range, least_range, greatest_range, sum_over_range}
use Rattle.kts_spec.specs.Related.{Pairs}
use Rattle.kts_spec.specs.Schemas.{is_family, is_type, is_end}
use Rattle.kts_spec.specs.Sums.{Within}
use Rattle.kts_spec.specs.Typing.{Kind, Whole, MemberOf, whole_within, ranges, two_wholes, kind_of_type, kind_of_use, kind_of, is_typed, term_kind}
use Rattle.kts_spec.proofs.Conditions.{schema_facts}
use Rattle.kts_spec.proofs.KindParts.{if_some, then_some, map_some, IsWhole, whole_of_some, same_whole, WholeIs, whole_within_some, ranges_some, two_wholes_some, kind_of_use_some}
use Rattle.kts_spec.proofs.Rolls.{kind_of-roll}
use Rattle.kts_spec.proofs.Inductions.{FormulaPart, Part, terms, bare, by_terms}
use Rattle.kts_base.proofs.Orders.{int_le_yes}

-- what holds of each item holds of the one at a place
pub all_get : {X : Type 0} (test : X → Bool) (xs : List X) (k : ℕ) (x : X) → list_all test xs ≡ true → slice_get xs k ≡ Some x → test x ≡ true
all_get test [] k x h e = cc
all_get test (y ∷ xs) zero x h e = let p = and_parts (test y) (list_all test xs) h in let q : y ≡ x = cc in subst (λ z. test z ≡ true) q p.0
all_get test (y ∷ xs) (suc k) x h e = all_get test xs k x (and_parts (test y) (list_all test xs) h).1 e

-- the range that was found is within the limit, where it is not empty
within_from : (v w : Range) → WholeIs v (Whole w) → v.0 ≤ℤ v.1 → Within (pos most_number) w
within_from v w h s =
    let t = and_parts (int_le (neg_ℤ (pos most_number)) v.0) (int_le v.1 (pos most_number)) h.bounded in
    subst (Within (pos most_number)) (sym (same_whole w v h.is)) (record { low = int_le_yes _ _ t.0; rising = s; high = int_le_yes _ _ t.1 })

-- the range of a type
type_within : (n : ℕ) (kind : ValueType) (w : Range) → is_type n kind ≡ true → kind_of_type kind ≡ Whole w → Within (pos most_number) w
type_within n (Member i) w h e = cc
type_within n (Int lo hi) w h e =
    let t = and_parts (is_end lo && is_end hi) (int_le lo hi) h in
    let ends = and_parts (is_end lo) (is_end hi) t.0 in
    let low : neg_ℤ (pos most_type_end) ≤ℤ lo = int_le_yes _ _ (and_parts (int_le (neg_ℤ (pos most_type_end)) lo) (int_le lo (pos most_type_end)) ends.0).0 in
    let high : hi ≤ℤ (pos most_type_end) = int_le_yes _ _ (and_parts (int_le (neg_ℤ (pos most_type_end)) hi) (int_le hi (pos most_type_end)) ends.1).1 in
    let rising = int_le_yes lo hi t.1 in
    let small : Within (pos most_number) (lo, hi) = record { low = omega (arith, ints); rising = rising; high = omega (arith, ints) } in
    subst (Within (pos most_number)) (same_whole (lo, hi) w e) small

-- the range of an access to a family
use_within : (n : ℕ) (families : List Family) (f : ℕ) (ks : List (Option Kind)) (w : Range) → list_all (is_family n) families ≡ true → kind_of_use (slice_get families f) ks ≡ Some (Whole w) → Within (pos most_number) w
use_within n families f ks w h e =
    let u = kind_of_use_some (slice_get families f) ks (Whole w) e in
    let fits = all_get (is_family n) families f u.family h u.there in
    type_within n u.family.kind w (and_parts (nat_le (length u.family.args) 2 && list_all _ u.family.args) (is_type n u.family.kind) fits).1 u.is

zero_rising : pos 0 ≤ℤ pos 0
zero_rising = omega (arith, ints)

product_rising : (a b c d : ℤ) → int_min (int_min a b) (int_min c d) ≤ℤ int_max (int_max a b) (int_max c d)
product_rising a b c d = omega (arith, ints, clamps)

over_rising : (v : Range) → v.0 ≤ℤ v.1 → (sum_over_range v).0 ≤ℤ (sum_over_range v).1
over_rising v h = omega (arith, ints, clamps)

module _ (schema : Schema) where
  abbrev Bounds : Term → Type 0
  Bounds t = (scope : List ℕ) (w : Range) → IsWhole (kind_of schema t scope) w → Within (pos most_number) w

  abbrev kinds : List (Part Bounds) → List ℕ → List (Option Kind)
  kinds parts scope = at_each scope (map (kind_of schema) (terms Bounds parts))

  total_rising : (parts : List (Part Bounds)) (scope : List ℕ) (ws : List Range) (start : Range) → Pairs IsWhole (kinds parts scope) ws → start.0 ≤ℤ start.1 → (fold sum_range start ws).0 ≤ℤ (fold sum_range start ws).1
  total_rising [] scope [] start h s = s
  total_rising [] scope (w ∷ ws) start h s = absurd h
  total_rising (p ∷ parts) scope [] start h s = absurd h
  total_rising (p ∷ parts) scope (w ∷ ws) start h s =
      let r = (p.1 scope w h.0).rising in total_rising parts scope ws (sum_range start w) h.1 (omega (arith, ints))

  -- what is to be shown of an operation on two
  abbrev Rises : (Range → Range → Range) → Type 0
  Rises f = (v w : Range) → v.0 ≤ℤ v.1 → w.0 ≤ℤ w.1 → (f v w).0 ≤ℤ (f v w).1

  two_within : (f : Range → Range → Range) (parts : List (Part Bounds)) (scope : List ℕ) (w a b : Range) → Rises f → Pairs IsWhole (kinds parts scope) (a ∷ b ∷ []) → WholeIs (f a b) (Whole w) → Within (pos most_number) w
  two_within f [] scope w a b r h is = absurd h
  two_within f (p ∷ []) scope w a b r h is = absurd h.1
  two_within f (p ∷ q ∷ []) scope w a b r h is = within_from (f a b) w is (r a b (p.1 scope a h.0).rising (q.1 scope b h.1.0).rising)
  two_within f (p ∷ q ∷ (s ∷ parts)) scope w a b r h is = absurd h.1.1

  two_bounds : (f : Range → Range → Range) (parts : List (Part Bounds)) (scope : List ℕ) (w : Range) → Rises f → two_wholes f (kinds parts scope) ≡ Some (Whole w) → Within (pos most_number) w
  two_bounds f parts scope w r e =
      let t = two_wholes_some f (kinds parts scope) (Whole w) e in two_within f parts scope w t.left t.right r t.are t.gives

  bounds_case : (y : one.Term-F FormulaPart (Part Bounds)) (scope : List ℕ) (w : Range)
      → IsWhole (term_kind schema (map-Term Formula Term (List ℕ → Bool) (List ℕ → Option Kind) (is_typed schema) (kind_of schema) (bare Bounds y)) scope) w → Within (pos most_number) w
  bounds_case (one.Number n) scope w e = within_from (n, n) w (whole_within_some (n, n) (Whole w) e) (omega (arith, ints))
  bounds_case (one.Var k) scope w e = let m = map_some MemberOf (slice_get scope k) (Whole w) e in let f = m.2 in cc
  bounds_case (one.Given f args) scope w e = use_within _ schema.givens f (kinds args scope) w (schema_facts schema).givens e
  bounds_case (one.Choice x args) scope w e = use_within _ schema.choices x (kinds args scope) w (schema_facts schema).choices e
  bounds_case (one.Add parts) scope w e =
      let few = if_some _ _ (Whole w) e in
      let all = then_some (λ ws. whole_within (total_range ws)) (ranges (kinds parts scope)) (Whole w) few.1 in
      within_from (total_range all.0) w (whole_within_some (total_range all.0) (Whole w) all.2)
      (total_rising parts scope all.0 (pos 0, pos 0) (ranges_some (kinds parts scope) all.0 all.1) zero_rising)
  bounds_case (one.Sub parts) scope w e = two_bounds difference_range parts scope w (λ v w p q. omega (arith, ints)) e
  bounds_case (one.Mul parts) scope w e = two_bounds product_range parts scope w (λ v w p q. product_rising (v.0 *ℤ w.0) (v.0 *ℤ w.1) (v.1 *ℤ w.0) (v.1 *ℤ w.1)) e
  bounds_case (one.Min parts) scope w e = two_bounds least_range parts scope w (λ v w p q. omega (arith, ints, clamps)) e
  bounds_case (one.Max parts) scope w e = two_bounds greatest_range parts scope w (λ v w p q. omega (arith, ints, clamps)) e
  bounds_case (one.Sum i p a) scope w e =
      let bound = if_some _ _ (Whole w) e in
      let of = then_some (λ v. whole_within (sum_over_range v)) _ (Whole w) bound.1 in
      let v = of.0 in
      let known = whole_of_some (kind_of schema a.0 (scope ++ i ∷ [])) v of.1 in
      within_from (sum_over_range v) w (whole_within_some (sum_over_range v) (Whole w) of.2) (over_rising v (a.1 (scope ++ i ∷ []) v known).rising)

  bounds_all : (y : one.Term-F FormulaPart (Part Bounds)) → Bounds (roll-Term (bare Bounds y))
  bounds_all y scope w e = bounds_case y scope w (subst (λ (k : List ℕ → Option Kind). IsWhole (k scope) w) (kind_of-roll schema (bare Bounds y)) e)

  pub range_within : (t : Term) → Bounds t
  range_within t = by_terms Bounds bounds_all t
