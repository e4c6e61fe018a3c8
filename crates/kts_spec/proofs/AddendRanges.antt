-- Each addend of a whole number has a range within the limit on numbers.
use Rattle.std.proofs.Common.{◌≡◌, refl, sym, subst, ap, ℕ, List, [], ◌∷◌, ◌++◌, map, Bool, Option}
use Rattle.std.specs.Prelude.{pos, flat_map}
use Rattle.kts_base.specs.Limits.{most_number}
use Rattle.kts_spec.specs.declared.schema.Schema.{Schema}
use Rattle.kts_spec.specs.declared.tree.Term.{Term, roll-Term}
use Rattle.kts_spec.specs.declared.tree.Formula.{Formula}
use Rattle.kts_spec.specs.declared.tree.Formula.TheOpen as one
use Rattle.kts_spec.specs.declared.tree.Formula.TheFolds.{map-Term}
use Rattle.kts_spec.specs.Addends.{Addend, Plus, opposite, difference, term_addends, addends}
use Rattle.kts_spec.specs.Domain.{at_each}
use Rattle.kts_spec.specs.Ranges.{Range, total_range, difference_range}
use Rattle.kts_spec.specs.Related.{Pairs, AllOf}
use Rattle.kts_spec.specs.Sums.{Within}
use Rattle.kts_spec.specs.Typing.{Kind, Whole, whole_within, ranges, kind_of, is_typed, term_kind}
use Rattle.kts_spec.proofs.KindParts.{if_some, then_some, IsWhole, ranges_some, two_wholes_some}
use Rattle.kts_spec.proofs.Rolls.{kind_of-roll, addends-roll}
use Rattle.kts_spec.proofs.TermRanges.{range_within}
use Rattle.kts_spec.proofs.Inductions.{FormulaPart, Part, terms, bare, by_terms}

abbrev pub WithAddends : Type 0
WithAddends = Term × List Addend

abbrev pub WithNothing : Type 0
WithNothing = Formula × Unit {0}

abbrev pub paired : one.Term-F Formula Term → one.Term-F WithNothing WithAddends
paired x = map-Term Formula Term WithNothing WithAddends (λ p. (p, tt)) (λ t. (t, addends t)) x

abbrev pub firsts : one.Term-F WithNothing WithAddends → one.Term-F Formula Term
firsts x = map-Term WithNothing WithAddends Formula Term (λ p. p.0) (λ t. t.0) x

terms_back : (ts : List Term) → map (λ (p : WithAddends). p.0) (map (λ (t : Term). (t, addends t)) ts) ≡ ts
terms_back [] = refl
terms_back (t ∷ ts) = cc (terms_back ts)

-- the parts of a tree beside their addends are its parts
pub parts_back : (x : one.Term-F Formula Term) → firsts (paired x) ≡ x
parts_back (one.Number n) = refl
parts_back (one.Var k) = refl
parts_back (one.Given f args) = ap (λ ts. one.Given f ts) (terms_back args)
parts_back (one.Choice f args) = ap (λ ts. one.Choice f ts) (terms_back args)
parts_back (one.Add parts) = ap (λ ts. one.Add ts) (terms_back parts)
parts_back (one.Sub parts) = ap (λ ts. one.Sub ts) (terms_back parts)
parts_back (one.Mul parts) = ap (λ ts. one.Mul ts) (terms_back parts)
parts_back (one.Min parts) = ap (λ ts. one.Min ts) (terms_back parts)
parts_back (one.Max parts) = ap (λ ts. one.Max ts) (terms_back parts)
parts_back (one.Sum i p a) = refl

pub all_append : {X : Type 0} (P : X → Type 0) (xs ys : List X) → AllOf P xs → AllOf P ys → AllOf P (xs ++ ys)
all_append P [] ys h k = k
all_append P (x ∷ xs) ys h k = (h.0, all_append P xs ys h.1 k)

module _ (schema : Schema) where
  -- the term of an addend has a range within the limit
  pub record HasRange (scope : List ℕ) (a : Addend) : Type 0 where
    pub range : Range
    pub is : IsWhole (kind_of schema a.term scope) range
    pub within : Within (pos most_number) range

  pub ranged_whole : (t : Term) (scope : List ℕ) (w : Range) → IsWhole (kind_of schema t scope) w → HasRange scope (record { sign = Plus; term = t })
  ranged_whole t scope w h = record { range = w; is = h; within = range_within schema t scope w h }

  pub all_opposite : (scope : List ℕ) (xs : List Addend) → AllOf (HasRange scope) xs → AllOf (HasRange scope) (map opposite xs)
  all_opposite scope [] h = tt
  all_opposite scope (a ∷ xs) h = let r = h.0 in (record { range = r.range; is = r.is; within = r.within }, all_opposite scope xs h.1)

  abbrev Ranged : Term → Type 0
  Ranged t = (scope : List ℕ) (w : Range) → IsWhole (kind_of schema t scope) w → AllOf (HasRange scope) (addends t)

  abbrev kinds : List (Part Ranged) → List ℕ → List (Option Kind)
  kinds parts scope = at_each scope (map (kind_of schema) (terms Ranged parts))

  abbrev seconds : List (Part Ranged) → List (List Addend)
  seconds parts = map (λ (p : WithAddends). p.1) (map (λ (t : Term). (t, addends t)) (terms Ranged parts))

  sum_ranged : (parts : List (Part Ranged)) (scope : List ℕ) (ws : List Range) → Pairs IsWhole (kinds parts scope) ws → AllOf (HasRange scope) (flat_map (λ (p : WithAddends). p.1) (map (λ (t : Term). (t, addends t)) (terms Ranged parts)))
  sum_ranged [] scope ws h = tt
  sum_ranged (p ∷ parts) scope [] h = absurd h
  sum_ranged (p ∷ parts) scope (w ∷ ws) h = all_append (HasRange scope) (addends p.0) _ (p.1 scope w h.0) (sum_ranged parts scope ws h.1)

  difference_ranged : (parts : List (Part Ranged)) (scope : List ℕ) (v w : Range) → Pairs IsWhole (kinds parts scope) (v ∷ w ∷ []) → AllOf (HasRange scope) (difference (seconds parts))
  difference_ranged [] scope v w h = absurd h
  difference_ranged (p ∷ []) scope v w h = absurd h.1
  difference_ranged (p ∷ q ∷ []) scope v w h =
      all_append (HasRange scope) (addends p.0) (map opposite (addends q.0) ++ []) (p.1 scope v h.0)
      (all_append (HasRange scope) (map opposite (addends q.0)) [] (all_opposite scope (addends q.0) (q.1 scope w h.1.0)) tt)
  difference_ranged (p ∷ q ∷ (s ∷ parts)) scope v w h = absurd h.1.1

  abbrev kind_from_parts : one.Term-F Formula Term → List ℕ → Option Kind
  kind_from_parts x = term_kind schema (map-Term Formula Term (List ℕ → Bool) (List ℕ → Option Kind) (is_typed schema) (kind_of schema) x)

  -- a term that is its own addend
  alone_ranged : (x : one.Term-F Formula Term) (scope : List ℕ) (w : Range) → IsWhole (kind_from_parts x scope) w → HasRange scope (record { sign = Plus; term = roll-Term (firsts (paired x)) })
  alone_ranged x scope w h =
      rw (parts_back x) (ranged_whole (roll-Term x) scope w (subst (λ (k : List ℕ → Option Kind). IsWhole (k scope) w) (sym (kind_of-roll schema x)) h))

  ranged_case : (y : one.Term-F FormulaPart (Part Ranged)) (scope : List ℕ) (w : Range) → IsWhole (kind_from_parts (bare Ranged y) scope) w → AllOf (HasRange scope) (term_addends (paired (bare Ranged y)))
  ranged_case (one.Number n) scope w e = (alone_ranged (bare Ranged (one.Number n)) scope w e, tt)
  ranged_case (one.Var k) scope w e = (alone_ranged (bare Ranged (one.Var k)) scope w e, tt)
  ranged_case (one.Given f args) scope w e = (alone_ranged (bare Ranged (one.Given f args)) scope w e, tt)
  ranged_case (one.Choice x args) scope w e = (alone_ranged (bare Ranged (one.Choice x args)) scope w e, tt)
  ranged_case (one.Add parts) scope w e =
      let few = if_some _ _ (Whole w) e in
      let all = then_some (λ ws. whole_within (total_range ws)) (ranges (kinds parts scope)) (Whole w) few.1 in
      sum_ranged parts scope all.0 (ranges_some (kinds parts scope) all.0 all.1)
  ranged_case (one.Sub parts) scope w e =
      let t = two_wholes_some difference_range (kinds parts scope) (Whole w) e in difference_ranged parts scope t.left t.right t.are
  ranged_case (one.Mul parts) scope w e = (alone_ranged (bare Ranged (one.Mul parts)) scope w e, tt)
  ranged_case (one.Min parts) scope w e = (alone_ranged (bare Ranged (one.Min parts)) scope w e, tt)
  ranged_case (one.Max parts) scope w e = (alone_ranged (bare Ranged (one.Max parts)) scope w e, tt)
  ranged_case (one.Sum i p a) scope w e = (alone_ranged (bare Ranged (one.Sum i p a)) scope w e, tt)

  ranged_all : (y : one.Term-F FormulaPart (Part Ranged)) → Ranged (roll-Term (bare Ranged y))
  ranged_all y scope w e = rw (addends-roll (bare Ranged y)) (ranged_case y scope w (subst (λ (k : List ℕ → Option Kind). IsWhole (k scope) w) (kind_of-roll schema (bare Ranged y)) e))

  pub addends_ranged : (t : Term) → Ranged t
  addends_ranged t = by_terms Ranged ranged_all t
