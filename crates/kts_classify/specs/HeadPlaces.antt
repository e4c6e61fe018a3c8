-- Constraints by the place of their literal.
use Rattle.std.specs.Prelude.{ℕ, pos, List, Bool, true, false, slice_index_or}
use Rattle.kts_spec.specs.Addends.{Addend, added, negation}
use Rattle.kts_spec.specs.declared.tree.Comparison.{Comparison}
use Rattle.kts_spec.specs.declared.tree.Term.TheVariants.{Number}
use Rattle.kts_plan.specs.Heads.{heads_below, heads_zero}
use Rattle.kts_plan.specs.declared.definite.Definite.{Definite}
use Rattle.kts_plan.specs.declared.head.Head.{Head}
use Rattle.kts_classify.specs.declared.place.Place.{Place}

-- the constraint of a head
abbrev pub definite_at : Place → Head → Definite
definite_at at h = record { clause = at.clause; literal = at.literal; head = h }

-- the addend of this number
abbrev pub addend_at : List Addend → ℕ → Addend
addend_at addends k = slice_index_or addends k (added (Number (pos 0)))

-- the heads of an addend beside the others, in a sum that is 0, or at most 0
abbrev pub heads_in_sum : Bool → Addend → List Addend → List Head
heads_in_sum true = heads_zero
heads_in_sum false = heads_below

-- a comparison, or its negation
abbrev pub signed_comparison : Comparison → Bool → Comparison
signed_comparison c true = negation c
signed_comparison c false = c
