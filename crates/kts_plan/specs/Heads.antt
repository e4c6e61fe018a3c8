-- The heads of a literal: which cells it bounds, and by what.
use Rattle.std.specs.Prelude.{ℕ, zero, suc, List, [], ◌∷◌, ◌++◌, map, flat_map, Bool, true, false, Option, Some, None}
use Rattle.std.specs.List.{enumerate_from}
use Rattle.kts_spec.specs.declared.tree.Term.{Term}
use Rattle.kts_spec.specs.Addends.{Sign, Plus, Minus, Addend, opposite}
use Rattle.kts_spec.specs.Reads.{Access}
use Rattle.kts_abs.specs.declared.demand.Op.{Op}
use Rattle.kts_abs.specs.declared.demand.Op.TheVariants.{AtLeast, AtMost, Within, Without}
use Rattle.kts_clause.specs.declared.literal.Literal.{Literal}
use Rattle.kts_plan.specs.declared.bound.Bound.{Bound}
use Rattle.kts_plan.specs.declared.bound.Bound.TheVariants.{Rest, Side}
use Rattle.kts_plan.specs.declared.head.Head.{Head}
use Rattle.kts_plan.specs.BareAccesses.{bare}
use Rattle.kts_plan.specs.Assertions.{Assertion, AtMostZero, Zero, Alike, Unlike, Opaque, assertion_in}

-- the items but for the one of this number
abbrev pub all_but : {X : Type 0} → ℕ → List X → List X
all_but k [] = []
all_but zero (x ∷ xs) = xs
all_but (suc k) (x ∷ xs) = x ∷ all_but k xs

-- whether an addend of this sign is subtracted
abbrev pub is_minus : Sign → Bool
is_minus Plus = false
is_minus Minus = true

-- an addend as plans have it
abbrev pub signed_term : Addend → Bool × Term
signed_term a = (is_minus a.sign, a.term)

-- an access as a head, where there is one
abbrev pub head_of : Op → Bound → Option Access → List Head
head_of op bound None = []
head_of op bound (Some a) = record { choice = a.0; args = a.1; op = op; bound = bound } ∷ []

-- in a sum that is at most 0, an addend that is added is at most minus the rest, and one that is taken away at least the rest
abbrev pub op_below : Sign → Op
op_below Plus = AtMost
op_below Minus = AtLeast

abbrev pub rest : Sign → List Addend → Bound
rest Plus others = Rest (map (λ a. signed_term (opposite a)) others)
rest Minus others = Rest (map signed_term others)

-- the heads of an addend beside the others, in a sum that is at most 0
abbrev pub heads_below : Addend → List Addend → List Head
heads_below a others = head_of (op_below a.sign) (rest a.sign others) (bare a.term)

-- and in a sum that is 0
abbrev pub heads_zero : Addend → List Addend → List Head
heads_zero a others = head_of AtLeast (rest a.sign others) (bare a.term) ++ head_of AtMost (rest a.sign others) (bare a.term)

-- the heads of each addend, in order
abbrev pub heads_of_sum : (Addend → List Addend → List Head) → List Addend → List Head
heads_of_sum heads addends = flat_map (λ (numbered : ℕ × Addend). heads numbered.1 (all_but numbered.0 addends)) (enumerate_from 0 addends)

-- the heads of what a literal says
abbrev pub heads_of_assertion : Assertion → List Head
heads_of_assertion (AtMostZero addends) = heads_of_sum heads_below addends
heads_of_assertion (Zero addends) = heads_of_sum heads_zero addends
heads_of_assertion (Alike a b) = head_of Within (Side b) (bare a) ++ head_of Within (Side a) (bare b)
heads_of_assertion (Unlike a b) = head_of Without (Side b) (bare a) ++ head_of Without (Side a) (bare b)
heads_of_assertion Opaque = []

-- the heads of a literal, in order
abbrev pub heads_of : Literal → List Head
heads_of l = heads_of_assertion (assertion_in l)
