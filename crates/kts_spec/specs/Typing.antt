-- Which terms and formulas are well typed, and between which ends a term lies.
use Rattle.std.specs.Prelude.{ℕ, ◌+◌, List, [], ◌∷◌, ◌++◌, length, Bool, true, false, ◌&&◌, nat_eq, nat_lt, nat_le, Option, Some, None, if◌then◌else◌, option_map, option_and_then, slice_get}
use Rattle.std.specs.List.{list_all}
use Rattle.kts_spec.specs.declared.declarations.ValueType.{ValueType}
use Rattle.kts_spec.specs.declared.declarations.ValueType.TheVariants.{Int, Member}
use Rattle.kts_spec.specs.declared.declarations.Family.{Family}
use Rattle.kts_spec.specs.declared.schema.Schema.{Schema}
use Rattle.kts_base.specs.Limits.{most_parts, most_variables}
use Rattle.kts_spec.specs.declared.tree.Comparison.{Comparison}
use Rattle.kts_spec.specs.declared.tree.Comparison.TheVariants.{Same, Other}
use Rattle.kts_spec.specs.declared.tree.Term.{Term}
use Rattle.kts_spec.specs.declared.tree.Formula.{Formula}
use Rattle.kts_spec.specs.declared.tree.Formula.TheOpen.{Formula-F, Compare, And, Or, Not, Implies, Forall, Exists, Term-F, Number, Var, Given, Choice, Add, Sub, Mul, Min, Max, Sum}
use Rattle.kts_spec.specs.declared.tree.Formula.TheFolds.{fold-Formula, fold-Term}
use Rattle.kts_spec.specs.Domain.{at_each}
use Rattle.kts_spec.specs.Ranges.{Range, one_number, difference_range, product_range, least_range, greatest_range, total_range, sum_over_range, within_limit}

-- what a term is: a whole number between two ends, or a member of an index
pub data Kind : Type 0 where
  Whole : Range → Kind
  MemberOf : ℕ → Kind

-- the range of a whole number
abbrev pub whole_of : Kind → Option Range
whole_of (Whole w) = Some w
whole_of (MemberOf i) = None

-- the kind of a whole number in this range, where the range is within the limit
abbrev pub whole_within : Range → Option Kind
whole_within w = option_map Whole (within_limit w)

-- the ranges of terms that are all whole numbers
abbrev pub ranges : List (Option Kind) → Option (List Range)
ranges [] = Some []
ranges (k ∷ ks) = option_and_then (λ w. option_map (λ ws. w ∷ ws) (ranges ks)) (option_and_then whole_of k)

-- the kind that an operation on two whole numbers gives
abbrev pub with_two : (Range → Range → Range) → List Range → Option Kind
with_two f (v ∷ w ∷ []) = whole_within (f v w)
with_two f other = None

-- the kind that it gives to terms of these kinds
abbrev pub two_wholes : (Range → Range → Range) → List (Option Kind) → Option Kind
two_wholes f ks = option_and_then (with_two f) (ranges ks)

-- the kind of a value of a type
abbrev pub kind_of_type : ValueType → Kind
kind_of_type (Int lo hi) = Whole (lo, hi)
kind_of_type (Member i) = MemberOf i

-- whether these are members of these indexes
abbrev pub are_members : List ℕ → List (Option Kind) → Bool
are_members [] [] = true
are_members (i ∷ is) (Some (MemberOf j) ∷ ks) = nat_eq i j && are_members is ks
are_members is ks = false

-- the kind of an access to a family
abbrev pub kind_of_use : Option Family → List (Option Kind) → Option Kind
kind_of_use None ks = None
kind_of_use (Some family) ks = if are_members family.args ks then Some (kind_of_type family.kind) else None

-- whether two kinds may be comparison_truth as whole numbers
abbrev pub both_whole : Option Kind → Option Kind → Bool
both_whole (Some (Whole v)) (Some (Whole w)) = true
both_whole k l = false

-- whether both are members of one index
abbrev pub one_index : Option Kind → Option Kind → Bool
one_index (Some (MemberOf i)) (Some (MemberOf j)) = nat_eq i j
one_index k l = false

-- whether a comparison may stand between terms of these kinds
abbrev pub are_comparable : Comparison → Option Kind → Option Kind → Bool
are_comparable Same k l = one_index k l
are_comparable Other k l = one_index k l
are_comparable c k l = both_whole k l

-- A scope is the list of the indexes of the variables in it.
module _ (schema : Schema) where
  -- whether a number names an index
  abbrev pub is_index : ℕ → Bool
  is_index i = nat_lt i (length schema.indexes)

  -- whether variables of these indexes may come into scope
  abbrev pub may_bind : List ℕ → List ℕ → Bool
  may_bind scope indexes =
      nat_le 1 (length indexes) && list_all is_index indexes && nat_le (length scope + length indexes) most_variables

  abbrev pub term_kind : Term-F (List ℕ → Bool) (List ℕ → Option Kind) → List ℕ → Option Kind
  term_kind (Number n) scope = whole_within (one_number n)
  term_kind (Var k) scope = option_map MemberOf (slice_get scope k)
  term_kind (Given f args) scope = kind_of_use (slice_get schema.givens f) (at_each scope args)
  term_kind (Choice x args) scope = kind_of_use (slice_get schema.choices x) (at_each scope args)
  term_kind (Add parts) scope =
      if nat_le 2 (length parts) && nat_le (length parts) most_parts
      then option_and_then (λ ws. whole_within (total_range ws)) (ranges (at_each scope parts)) else None
  term_kind (Sub parts) scope = two_wholes difference_range (at_each scope parts)
  term_kind (Mul parts) scope = two_wholes product_range (at_each scope parts)
  term_kind (Min parts) scope = two_wholes least_range (at_each scope parts)
  term_kind (Max parts) scope = two_wholes greatest_range (at_each scope parts)
  term_kind (Sum i p a) scope =
      if may_bind scope (i ∷ []) && p (scope ++ i ∷ [])
      then option_and_then (λ w. whole_within (sum_over_range w)) (option_and_then whole_of (a (scope ++ i ∷ []))) else None

  abbrev pub formula_typed : Formula-F (List ℕ → Bool) (List ℕ → Option Kind) → List ℕ → Bool
  formula_typed (Compare c a b) scope = are_comparable c (a scope) (b scope)
  formula_typed (And parts) scope = nat_le 2 (length parts) && list_all (λ p. p scope) parts
  formula_typed (Or parts) scope = nat_le 2 (length parts) && list_all (λ p. p scope) parts
  formula_typed (Not p) scope = p scope
  formula_typed (Implies p q) scope = p scope && q scope
  formula_typed (Forall indexes p) scope = may_bind scope indexes && p (scope ++ indexes)
  formula_typed (Exists indexes p) scope = may_bind scope indexes && p (scope ++ indexes)

  -- the kind of a term whose variables are members of these indexes; None where it is ill typed or out of bounds
  unfoldable pub kind_of : Term → List ℕ → Option Kind
  kind_of = fold-Term (List ℕ → Bool) (List ℕ → Option Kind) formula_typed term_kind

  -- whether a formula is well typed there
  unfoldable pub is_typed : Formula → List ℕ → Bool
  is_typed = fold-Formula (List ℕ → Bool) (List ℕ → Option Kind) formula_typed term_kind

  -- the ends between which a whole-number term lies
  abbrev pub range : Term → List ℕ → Option Range
  range t scope = option_and_then whole_of (kind_of t scope)
