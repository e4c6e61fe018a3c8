-- The range_with_sign sum to which a comparison of whole numbers is brought.
use Rattle.std.specs.Prelude.{pos, List, [], ◌∷◌, ◌++◌, map, flat_map}
use Rattle.kts_spec.specs.declared.tree.Comparison.{Comparison}
use Rattle.kts_spec.specs.declared.tree.Comparison.TheVariants.{Le, Lt, Ge, Gt, Eq, Ne, Same, Other}
use Rattle.kts_spec.specs.declared.tree.Term.{Term, roll-Term}
use Rattle.kts_spec.specs.declared.tree.Term.TheVariants.{Number as NumberTerm}
use Rattle.kts_spec.specs.declared.tree.Formula.{Formula}
use Rattle.kts_spec.specs.declared.tree.Formula.TheOpen.{Formula-F, Term-F, Add, Sub}
use Rattle.kts_spec.specs.declared.tree.Formula.TheFolds.{para-Term, map-Term}

-- whether a sum adds a term or takes it away
pub data Sign : Type 0 where
  Plus : Sign
  Minus : Sign

-- a term with its sign
pub record Addend : Type 0 where
  pub sign : Sign
  pub term : Term

-- a term that is added, and one that is taken away
abbrev pub added : Term → Addend
added t = record { sign = Plus; term = t }

abbrev pub taken : Term → Addend
taken t = record { sign = Minus; term = t }

-- the term as the only addend
abbrev pub alone : Term → List Addend
alone t = added t ∷ []

-- the other sign, and the addend with it
abbrev pub other_sign : Sign → Sign
other_sign Plus = Minus
other_sign Minus = Plus

abbrev pub opposite : Addend → Addend
opposite a = record { sign = other_sign a.sign; term = a.term }

-- the first sum minus the others
abbrev pub difference : List (List Addend) → List Addend
difference [] = []
difference (a ∷ others) = a ++ flat_map (map opposite) others

-- a formula has no addends
abbrev pub formula_addends : Formula-F (Formula × Unit {0}) (Term × List Addend) → Unit {0}
formula_addends p = tt

-- `+` and `-` are sums of the addends of their parts, every other term is one addend
abbrev pub term_addends : Term-F (Formula × Unit {0}) (Term × List Addend) → List Addend
term_addends (Add parts) = flat_map (λ part. part.1) parts
term_addends (Sub parts) = difference (map (λ part. part.1) parts)
term_addends other = alone (roll-Term (map-Term (Formula × Unit {0}) (Term × List Addend) Formula Term (λ p. p.0) (λ t. t.0) other))

-- the addends of a term, flattened through `+` and `-`, in the order of the text
unfoldable pub addends : Term → List Addend
addends = para-Term (Unit {0}) (List Addend) formula_addends term_addends

-- the addends of the first term minus the second
abbrev pub minus : Term → Term → List Addend
minus a b = difference (addends a ∷ addends b ∷ [])

-- the sum that is at most 0, is 0, or is not 0, where the comparison of the two holds; members have none
abbrev pub addends_between : Comparison → Term → Term → List Addend
addends_between Le a b = minus a b
addends_between Lt a b = minus a b ++ alone (NumberTerm (pos 1))
addends_between Ge a b = minus b a
addends_between Gt a b = minus b a ++ alone (NumberTerm (pos 1))
addends_between Eq a b = minus a b
addends_between Ne a b = minus a b
addends_between Same a b = []
addends_between Other a b = []

-- the comparison that holds of two terms where this one does not
abbrev pub negation : Comparison → Comparison
negation Le = Gt
negation Lt = Ge
negation Ge = Lt
negation Gt = Le
negation Eq = Ne
negation Ne = Eq
negation Same = Other
negation Other = Same
