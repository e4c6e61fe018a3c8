-- The definite constraints and the residual clauses of some formulas.
use Rattle.std.specs.Prelude.{◌≡◌, ℕ, List, [], ◌∷◌, Bool, true, false}
use Rattle.kts_spec.specs.declared.tree.Comparison.TheVariants.{Le, Lt, Ge, Eq, Ne, Same}
use Rattle.kts_spec.specs.declared.tree.Term.{Term}
use Rattle.kts_spec.specs.declared.tree.Term.TheVariants.{Add, Sub}
use Rattle.kts_spec.specs.declared.tree.Formula.{Formula}
use Rattle.kts_spec.specs.declared.tree.Formula.TheVariants as formula
use Rattle.kts_spec.specs.Examples.{number, choice, given, var, released, idle_at_zero, load_on_trip}
use Rattle.kts_abs.specs.declared.demand.Op.{Op}
use Rattle.kts_abs.specs.declared.demand.Op.TheVariants.{AtLeast, AtMost, Within, Without}
use Rattle.kts_plan.specs.declared.bound.Bound.{Bound}
use Rattle.kts_plan.specs.declared.bound.Bound.TheVariants.{Rest, Side}
use Rattle.kts_plan.specs.declared.definite.Definite.{Definite}
use Rattle.kts_plan.specs.Constraints.{prefixes_of}
use Rattle.kts_plan.specs.Plans.{clauses_in, definites_of, residuals_of}

-- these formulas have these constraints, and these residual clauses
pub record HasPlan (formulas : List Formula) (ds : List Definite) (rs : List ℕ) : Type 0 where
  pub definites : definites_of (clauses_in formulas) ≡ ds
  pub residuals : residuals_of (clauses_in formulas) ≡ rs

-- a constraint of this clause and literal, on the cell of a choice
abbrev pub asking : ℕ → ℕ → ℕ → List Term → Op → Bound → Definite
asking clause literal x args op bound = record { clause = clause; literal = literal; head = record { choice = x; args = args; op = op; bound = bound } }

-- an addend that is added, and one that is subtracted
abbrev pub plus : Term → Bool × Term
plus t = (false, t)

abbrev pub less : Term → Bool × Term
less t = (true, t)

-- (forall (r Req) (t Trip) (=> (= (trip r) t) (<= (rel r) (start t))))
abbrev pub release : Formula
release = formula.Forall (0 ∷ 1 ∷ []) released

-- (forall (t Trip) (=> (forall (r Req) (/= (trip r) t)) (= (start t) 0)))
abbrev pub idle : Formula
idle = formula.Forall (1 ∷ []) idle_at_zero

abbrev pub of_release_and_idle : List Definite
of_release_and_idle =
    asking 0 0 0 (var 0 ∷ []) Without (Side (var 1))
    ∷ asking 0 1 1 (var 1 ∷ []) AtLeast (Rest (plus (given 0 (var 0 ∷ [])) ∷ []))
    ∷ asking 1 1 1 (var 0 ∷ []) AtLeast (Rest (plus (number 0) ∷ []))
    ∷ asking 1 1 1 (var 0 ∷ []) AtMost (Rest (plus (number 0) ∷ []))
    ∷ []

-- (forall (t Trip) (<= (sum (r Req) (= (trip r) t) (load r)) 5)): no addend is an access
abbrev pub capacity : Formula
capacity = formula.Forall (1 ∷ []) (formula.Compare Le load_on_trip (number 5))

-- three choices without arguments
abbrev pub x : Term
x = choice 0 []

abbrev pub y : Term
y = choice 1 []

abbrev pub z : Term
z = choice 2 []

-- (< (+ x y) (- z 1)): x + y - z + 1 + 1 is at most 0
abbrev pub sum_below : Formula
sum_below = formula.Compare Lt (Add (x ∷ y ∷ [])) (Sub (z ∷ number 1 ∷ []))

abbrev pub of_sum_below : List Definite
of_sum_below =
    asking 0 0 0 [] AtMost (Rest (less y ∷ plus z ∷ less (number 1) ∷ less (number 1) ∷ []))
    ∷ asking 0 0 1 [] AtMost (Rest (less x ∷ plus z ∷ less (number 1) ∷ less (number 1) ∷ []))
    ∷ asking 0 0 2 [] AtLeast (Rest (plus x ∷ plus y ∷ plus (number 1) ∷ plus (number 1) ∷ []))
    ∷ []

-- (not (>= x y)): x is less than y
abbrev pub not_at_least : Formula
not_at_least = formula.Not (formula.Compare Ge x y)

abbrev pub of_not_at_least : List Definite
of_not_at_least =
    asking 0 0 0 [] AtMost (Rest (plus y ∷ less (number 1) ∷ []))
    ∷ asking 0 0 1 [] AtLeast (Rest (plus x ∷ plus (number 1) ∷ []))
    ∷ []

-- (= 7 x), whole numbers: x is at least and at most 7
abbrev pub is_seven : Formula
is_seven = formula.Compare Eq (number 7) x

abbrev pub of_is_seven : List Definite
of_is_seven = asking 0 0 0 [] AtLeast (Rest (plus (number 7) ∷ [])) ∷ asking 0 0 0 [] AtMost (Rest (plus (number 7) ∷ [])) ∷ []

-- (/= 7 x), whole numbers, says nothing of the ends of x
abbrev pub is_not_seven : Formula
is_not_seven = formula.Compare Ne (number 7) x

-- (= (p x) (p 0)) on members: the argument of the first access reads a choice
abbrev pub same_places : Formula
same_places = formula.Compare Same (choice 3 (x ∷ [])) (choice 3 (var 0 ∷ []))

abbrev pub of_same_places : List Definite
of_same_places = asking 0 0 3 (var 0 ∷ []) Within (Side (choice 3 (x ∷ []))) ∷ []

pub record PlanExamples : Type 0 where
  pub requests : HasPlan (release ∷ idle ∷ []) of_release_and_idle []
  pub prefixes : prefixes_of (clauses_in (release ∷ idle ∷ [])) ≡ (0 ∷ 1 ∷ []) ∷ (0 ∷ 1 ∷ []) ∷ (1 ∷ []) ∷ (1 ∷ []) ∷ []
  pub sums_over_members : HasPlan (capacity ∷ release ∷ capacity ∷ []) (asking 1 0 0 (var 0 ∷ []) Without (Side (var 1)) ∷ asking 1 1 1 (var 1 ∷ []) AtLeast (Rest (plus (given 0 (var 0 ∷ [])) ∷ [])) ∷ []) (0 ∷ 2 ∷ [])
  pub sums : HasPlan (sum_below ∷ []) of_sum_below []
  pub opposites : HasPlan (not_at_least ∷ []) of_not_at_least []
  pub equal_numbers : HasPlan (is_seven ∷ []) of_is_seven []
  pub other_numbers : HasPlan (is_not_seven ∷ []) [] (0 ∷ [])
  pub equal_members : HasPlan (same_places ∷ []) of_same_places []
