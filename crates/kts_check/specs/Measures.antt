-- The ends between which terms lie.
use Rattle.std.specs.Prelude.{ℕ, ℤ, pos, neg_ℤ, int_le, List, [], ◌∷◌, Bool, true, false, ◌&&◌, nat_eq, Option, None, Some, if◌then◌else◌, Ok, option_map}
use Rattle.kts_spec.specs.Ranges.{Range, sum_range, sum_over_range}
use Rattle.kts_spec.specs.declared.declarations.ValueType.{ValueType}
use Rattle.kts_spec.specs.declared.declarations.ValueType.TheVariants as type
use Rattle.kts_base.specs.Limits.{most_number}
use Rattle.kts_spec.specs.declared.tree.Term.{Term}
use Rattle.kts_check.specs.Faults.{Judged, fail}
use Rattle.kts_check.specs.declared.fault.SpecKind.TheVariants.{WrongKind, Unbounded}
use Rattle.kts_check.specs.declared.kind.Kind.{Kind}
use Rattle.kts_check.specs.declared.kind.Kind.TheVariants.{Whole, Member}
use Rattle.kts_check.specs.declared.phrase.Phrase.{Phrase}
use Rattle.kts_check.specs.declared.phrase.Phrase.TheVariants.{Value}

-- whether an end lies within the limit on numbers
abbrev pub is_limited : ℤ → Bool
is_limited n = int_le (neg_ℤ (pos most_number)) n && int_le n (pos most_number)

-- a term with its range, where there is one; the range must be within the limit
abbrev pub limited_term : ℕ → Term → Option Range → Judged Phrase
limited_term at term None = fail WrongKind at
limited_term at term (Some range) = if is_limited range.0 && is_limited range.1 then Ok (Value term (Whole range.0 range.1)) else fail (Unbounded range.0 range.1) at

-- the range of the sum of a range and whole numbers
abbrev pub total_from : Range → List Kind → Option Range
total_from range [] = Some range
total_from range (Whole low high ∷ kinds) = total_from (sum_range range (low, high)) kinds
total_from range (Member i ∷ kinds) = None

-- the range of the sum of whole numbers
unfoldable pub total : List Kind → Option Range
total = total_from (pos 0, pos 0)

-- the ranges of two whole numbers
abbrev pub both_wholes : Kind → Kind → Option (Range × Range)
both_wholes (Whole a b) (Whole c d) = Some ((a, b), (c, d))
both_wholes k l = None

unfoldable pub two_wholes : List Kind → Option (Range × Range)
two_wholes (k ∷ l ∷ []) = both_wholes k l
two_wholes other = None

-- the range that an operation gives on two whole numbers
abbrev pub two : (Range → Range → Range) → List Kind → Option Range
two f kinds = option_map (λ p. f p.0 p.1) (two_wholes kinds)

-- the range of a sum over an index
unfoldable pub range_of_sum : Kind → Option Range
range_of_sum (Whole low high) = Some (sum_over_range (low, high))
range_of_sum (Member i) = None

-- what a value of a type is
unfoldable pub kind_of : ValueType → Kind
kind_of (type.Int low high) = Whole low high
kind_of (type.Member i) = Member i

-- whether these are members of these indexes
abbrev pub is_member : ℕ → Kind → Bool
is_member i (Whole low high) = false
is_member i (Member j) = nat_eq i j

unfoldable pub are_members : List ℕ → List Kind → Bool
are_members (i ∷ is) (k ∷ kinds) = is_member i k && are_members is kinds
are_members [] [] = true
are_members is kinds = false
