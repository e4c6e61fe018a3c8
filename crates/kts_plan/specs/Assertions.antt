-- What a literal says of sums and of members.
use Rattle.std.specs.Prelude.{List, Bool, true, false}
use Rattle.kts_spec.specs.declared.tree.Comparison.{Comparison}
use Rattle.kts_spec.specs.declared.tree.Comparison.TheVariants.{Le, Lt, Ge, Gt, Eq, Ne, Same, Other}
use Rattle.kts_spec.specs.declared.tree.Term.{Term}
use Rattle.kts_spec.specs.declared.tree.Formula.{Formula}
use Rattle.kts_spec.specs.declared.tree.Formula.TheOpen.{Formula-F, Compare}
use Rattle.kts_spec.specs.declared.tree.Formula.TheFolds.{para-Formula}
use Rattle.kts_spec.specs.Addends.{Addend, addends_between, negation}
use Rattle.kts_clause.specs.declared.literal.Literal.{Literal}

-- a signed sum that is at most 0, or is 0; two terms that are the same member, or are not; anything else
pub data Assertion : Type 0 where
  AtMostZero : List Addend → Assertion
  Zero : List Addend → Assertion
  Alike : Term → Term → Assertion
  Unlike : Term → Term → Assertion
  Opaque : Assertion

-- what a comparison of two terms says
abbrev pub comparison_assertion : Comparison → Term → Term → Assertion
comparison_assertion Le a b = AtMostZero (addends_between Le a b)
comparison_assertion Lt a b = AtMostZero (addends_between Lt a b)
comparison_assertion Ge a b = AtMostZero (addends_between Ge a b)
comparison_assertion Gt a b = AtMostZero (addends_between Gt a b)
comparison_assertion Eq a b = Zero (addends_between Eq a b)
comparison_assertion Ne a b = Opaque
comparison_assertion Same a b = Alike a b
comparison_assertion Other a b = Unlike a b

-- what each variant of formula says, or where it is negated; a negated comparison is its opposite
abbrev pub assertion_step : Formula-F (Formula × (Bool → Assertion)) (Term × Unit {0}) → Bool → Assertion
assertion_step (Compare c a b) false = comparison_assertion c a.0 b.0
assertion_step (Compare c a b) true = comparison_assertion (negation c) a.0 b.0
assertion_step other negative = Opaque

-- what a formula, or its negation, says
unfoldable pub assertion_of : Formula → Bool → Assertion
assertion_of = para-Formula (Bool → Assertion) (Unit {0}) assertion_step (λ _. tt)

-- what a literal says
abbrev pub assertion_in : Literal → Assertion
assertion_in l = assertion_of l.formula l.negative
