-- The code of the body of a definite constraint.
use Rattle.std.specs.Prelude.{ℕ, ◌+◌, pos, List, [], ◌∷◌, ◌++◌, length, map, Bool, true, false}
use Rattle.kts_abs.specs.declared.demand.Op.{Op}
use Rattle.kts_abs.specs.declared.demand.Op.TheVariants.{AtLeast, AtMost, Within, Without}
use Rattle.kts_clause.specs.declared.clause.Clause.{Clause}
use Rattle.kts_clause.specs.declared.literal.Literal.{Literal}
use Rattle.kts_code.specs.declared.instructions.Instr.{Instr}
use Rattle.kts_code.specs.declared.instructions.Instr.TheVariants as i
use Rattle.kts_plan.specs.declared.bound.Bound.{Bound}
use Rattle.kts_plan.specs.declared.bound.Bound.TheVariants.{Rest, Side}
use Rattle.kts_plan.specs.declared.definite.Definite.{Definite}
use Rattle.kts_plan.specs.declared.head.Head.{Head}
use Rattle.kts_plan.specs.Constraints.{Constraint}
use Rattle.kts_plan.specs.Heads.{all_but}
use Rattle.kts_spec.specs.declared.tree.Term.{Term}
use Rattle.kts_emit.specs.Fragments.{Fragment, operation, chain_rest, begun}
use Rattle.kts_emit.specs.Codes.{negated, term_code, formula_code}

-- one fragment and then another
abbrev pub followed : Fragment → Fragment → Fragment
followed code next place vars = code place vars ++ next (place + length (code place vars)) vars

-- a fragment, or its contrary
abbrev pub signed_code : Bool → Fragment → Fragment
signed_code false code = code
signed_code true code = negated code

-- what pushes the truth of a literal
abbrev pub literal_code : Literal → Fragment
literal_code l = signed_code l.negative (formula_code l.formula)

-- the first addend of a sum, or 0 minus it
abbrev pub first_code : Bool → Fragment → Fragment
first_code false code = code
first_code true code = operation (operation [] (i.Num (pos 0) ∷ []) ∷ code ∷ []) (i.Sub ∷ [])

-- what joins a later addend to what is before it
abbrev pub sign_instr : Bool → Instr
sign_instr false = i.Add
sign_instr true = i.Sub

-- the later addends, each joined
abbrev pub later_code : List (Bool × Term) → Fragment
later_code [] = operation [] []
later_code (a ∷ addends) = followed (term_code a.1) (begun (sign_instr a.0) (later_code addends))

-- a signed sum, where the truth value says that an addend is subtracted; without addends it is 0
abbrev pub sum_code : List (Bool × Term) → Fragment
sum_code [] = operation [] (i.Num (pos 0) ∷ [])
sum_code (a ∷ addends) = followed (first_code a.0 (term_code a.1)) (later_code addends)

-- what pushes the abstract value of a bound
abbrev pub bound_code : Bound → Fragment
bound_code (Rest addends) = sum_code addends
bound_code (Side t) = term_code t

-- the step of a head on the cell of a choice, which leaves to the label where nothing is left of the cell
abbrev pub op_instr : Op → ℕ → ℕ → Instr
op_instr AtLeast x fail = i.AtLeast x fail
op_instr AtMost x fail = i.AtMost x fail
op_instr Within x fail = i.Within x fail
op_instr Without x fail = i.Without x fail

-- the arguments of a head and its bound, its step, and the way back
abbrev pub head_code : Head → ℕ → ℕ → Fragment
head_code h done fail = operation (map term_code h.args ++ bound_code h.bound ∷ []) (op_instr h.op h.choice fail ∷ (i.Jump done ∷ []))

-- the other literals, each of which has to be false, and the head; the labels are where the run goes on when the task is
-- done, and where it goes when nothing is left of the cell
abbrev pub body_code : Constraint → ℕ → ℕ → Fragment
body_code c done fail = followed (chain_rest (i.Need done) (map literal_code c.others)) (head_code c.head done fail)

-- a constraint of a plan, with the clause that it is of
abbrev pub constraint_in : Clause → Definite → Constraint
constraint_in clause d = record { prefix = clause.prefix; others = all_but d.literal clause.literals; head = d.head }
