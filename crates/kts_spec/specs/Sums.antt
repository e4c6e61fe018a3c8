-- The sum of a comparison decides it, and no partial sum leaves the machine's range.
use Rattle.std.specs.Prelude.{◌≡◌, ◌≢◌, ◌↔◌, ℕ, ℤ, pos, neg_ℤ, ◌≤ℤ◌, List, [], map, take, true, Option, Some, option_map}
use Rattle.kts_base.specs.Limits.{most_number, most_window_end}
use Rattle.kts_spec.specs.declared.schema.Schema.{Schema}
use Rattle.kts_spec.specs.declared.spec.Spec.{Spec}
use Rattle.kts_spec.specs.declared.tree.Comparison.TheVariants.{Le, Lt, Ge, Gt, Eq, Ne}
use Rattle.kts_spec.specs.declared.tree.Term.{Term}
use Rattle.kts_spec.specs.declared.tree.Term.TheVariants.{Add as AddTerm}
use Rattle.kts_spec.specs.Addends.{Sign, Plus, Minus, Addend, added, addends_between, negation}
use Rattle.kts_spec.specs.Answers.{formulas_of}
use Rattle.kts_spec.specs.Comparisons.{ComparisonInScope, comparisons_in}
use Rattle.kts_spec.specs.MeaningEquations.{Holds, total}
use Rattle.kts_spec.specs.Meaning.{value_on}
use Rattle.kts_spec.specs.Ranges.{Range, total_range}
use Rattle.kts_spec.specs.Related.{AllOf}
use Rattle.kts_spec.specs.Typing.{Kind, both_whole, kind_of, range}
use Rattle.kts_spec.specs.Worlds.{World}

-- the range of a term with a sign
abbrev pub range_with_sign : Sign → Range → Range
range_with_sign Plus w = w
range_with_sign Minus w = (neg_ℤ w.1, neg_ℤ w.0)

-- the ends between which an addend lies
abbrev pub addend_range : Schema → List ℕ → Addend → Option Range
addend_range schema scope a = option_map (range_with_sign a.sign) (range schema a.term scope)

-- a range that is not empty, with both ends within a limit
pub record Within (limit : ℤ) (w : Range) : Type 0 where
  pub low : neg_ℤ limit ≤ℤ w.0
  pub rising : w.0 ≤ℤ w.1
  pub high : w.1 ≤ℤ limit

-- every well typed whole number lies within the limit on numbers
abbrev pub RangesKeepTheLimit : Type 0
RangesKeepTheLimit = (schema : Schema) (scope : List ℕ) (t : Term) (w : Range) → range schema t scope ≡ Some w → Within (pos most_number) w

-- every addend has a range of numbers, and the sum of any first ranges lies in the machine's range
pub record SumFits (schema : Schema) (scope : List ℕ) (addends : List Addend) : Type 0 where
  pub ranges : List Range
  pub known : map (addend_range schema scope) addends ≡ map Some ranges
  pub numbers : AllOf (Within (pos most_number)) ranges
  pub partial : (k : ℕ) → Within (pos most_window_end) (total_range (take k ranges))

-- the sum of a comparison fits, and that of its negation
pub record ComparisonFits (schema : Schema) (c : ComparisonInScope) : Type 0 where
  pub written : SumFits schema c.scope (addends_between c.comparison c.left c.right)
  pub negated : SumFits schema c.scope (addends_between (negation c.comparison) c.left c.right)

-- every comparison in every formula of every specification
abbrev pub PartialSumsFit : Type 0
PartialSumsFit = (spec : Spec) → AllOf (λ p. AllOf (ComparisonFits spec.schema) (comparisons_in p [])) (formulas_of spec)

-- the parts of every `+` that is well typed
abbrev pub PartSumsFit : Type 0
PartSumsFit = (schema : Schema) (scope : List ℕ) (parts : List Term) (k : Kind) → kind_of schema (AddTerm parts) scope ≡ Some k → SumFits schema scope (map added parts)

-- the value of an addend
abbrev pub signed_value : Sign → ℤ → ℤ
signed_value Plus v = v
signed_value Minus v = neg_ℤ v

-- the value of a range_with_sign sum
abbrev pub sum_on : World → List ℤ → List Addend → List ℕ → ℤ
sum_on w schedule addends vars = total (map (λ a. signed_value a.sign (value_on w schedule a.term vars)) addends)

-- each comparison of two numbers by its sum
pub record ComparedBySums (w : World) (schedule : List ℤ) (vars : List ℕ) (a b : Term) : Type 0 where
  pub at_most : Holds Le (value_on w schedule a vars) (value_on w schedule b vars) ↔ sum_on w schedule (addends_between Le a b) vars ≤ℤ pos 0
  pub less : Holds Lt (value_on w schedule a vars) (value_on w schedule b vars) ↔ sum_on w schedule (addends_between Lt a b) vars ≤ℤ pos 0
  pub at_least : Holds Ge (value_on w schedule a vars) (value_on w schedule b vars) ↔ sum_on w schedule (addends_between Ge a b) vars ≤ℤ pos 0
  pub greater : Holds Gt (value_on w schedule a vars) (value_on w schedule b vars) ↔ sum_on w schedule (addends_between Gt a b) vars ≤ℤ pos 0
  pub equal : Holds Eq (value_on w schedule a vars) (value_on w schedule b vars) ↔ sum_on w schedule (addends_between Eq a b) vars ≡ pos 0
  pub unequal : Holds Ne (value_on w schedule a vars) (value_on w schedule b vars) ↔ sum_on w schedule (addends_between Ne a b) vars ≢ pos 0

-- on every schedule the comparisons of two well typed numbers are those of their sums
abbrev pub SumsDecide : Type 0
SumsDecide = (schema : Schema) (scope : List ℕ) (a b : Term) → both_whole (kind_of schema a scope) (kind_of schema b scope) ≡ true
    → (w : World) (schedule : List ℤ) (vars : List ℕ) → ComparedBySums w schedule vars a b
