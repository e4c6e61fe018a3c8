-- What a task asks of a space.
use Rattle.std.specs.Prelude.{ℕ, pos, List, [], fold, slice_get, Bool, true, false, Option, Some, None, option_and_then, if◌then◌else◌}
use Rattle.std.specs.List.{list_all}
use Rattle.kts_spec.specs.declared.tree.Term.{Term}
use Rattle.kts_spec.specs.MeaningEquations.{values_on}
use Rattle.kts_spec.specs.Places.{cell}
use Rattle.kts_spec.specs.Worlds.{World, size_of}
use Rattle.kts_abs.specs.declared.truth.Tri.{Tri}
use Rattle.kts_abs.specs.declared.truth.Tri.TheVariants.{F, U, T}
use Rattle.kts_abs.specs.Demands.{Demand}
use Rattle.kts_abs.specs.InSpace.{in_space, value_in}
use Rattle.kts_abs.specs.Values.{Abs, Win, window_of}
use Rattle.kts_abs.specs.Windows.{Window, sum_of, difference_of}
use Rattle.kts_clause.specs.declared.clause.Clause.{Clause}
use Rattle.kts_clause.specs.declared.literal.Literal.{Literal}
use Rattle.kts_clause.specs.ClauseTruth.{literal_truth}
use Rattle.kts_index.specs.TaskOrder.{Task}
use Rattle.kts_plan.specs.declared.bound.Bound.{Bound}
use Rattle.kts_plan.specs.declared.bound.Bound.TheVariants.{Rest, Side}
use Rattle.kts_plan.specs.declared.head.Head.{Head}
use Rattle.kts_plan.specs.Constraints.{Constraint, constraints_of, tasks_of}

-- whether a truth value is surely false
abbrev pub is_false : Tri → Bool
is_false F = true
is_false U = false
is_false T = false

-- a sum with one addend more, which may be subtracted
abbrev pub with_addend : Window → Bool → Window → Window
with_addend total false v = sum_of total v
with_addend total true v = difference_of total v

-- At members that are the variables in scope.
module _ (w : World) (space : List Abs) (vars : List ℕ) where
  -- the truth of a literal in a space
  abbrev pub literal_in : Literal → Tri
  literal_in = literal_truth (size_of w) (in_space w space) vars

  -- whether all of them are surely false
  abbrev pub all_false : List Literal → Bool
  all_false ls = list_all (λ l. is_false (literal_in l)) ls

  -- a signed sum from a number on
  abbrev pub sum_in : Window → List (Bool × Term) → Window
  sum_in = fold (λ total a. with_addend total a.0 (window_of (value_in w space a.1 vars)))

  -- the abstract value of a bound
  abbrev pub bound_in : Bound → Abs
  bound_in (Rest addends) = Win (sum_in (pos 0, pos 0) addends)
  bound_in (Side t) = value_in w space t vars

-- the cell of a head; its arguments read no choice, so that any schedule serves
abbrev pub head_cell : World → List ℕ → Head → Option ℕ
head_cell w vars h = cell w h.choice (values_on w [] h.args vars)

-- a demand on a cell, where there is one
abbrev pub on_cell : Option ℕ → Demand → Option (ℕ × Demand)
on_cell None d = None
on_cell (Some c) d = Some (c, d)

-- nothing unless all other literals are false
abbrev pub asked : Bool → Option ℕ → Demand → Option (ℕ × Demand)
asked others_false c d = if others_false then on_cell c d else None

-- the cell of a constraint's head, and what is asked of it in a space, where the prefix's variables are these members
abbrev pub asks : World → List ℕ → List Abs → Constraint → Option (ℕ × Demand)
asks w tuple space c = asked (all_false w space tuple c.others) (head_cell w tuple c.head) (c.head.op, bound_in w space tuple c.head.bound)

-- what a task asks of a space
abbrev pub task_asks : World → List Clause → List Abs → Task → Option (ℕ × Demand)
task_asks w clauses space task = option_and_then (asks w task.tuple space) (slice_get (constraints_of clauses) task.definite)

-- what the task of this number asks of a space
abbrev pub asks_in : World → List Clause → ℕ → List Abs → Option (ℕ × Demand)
asks_in w clauses k space = option_and_then (task_asks w clauses space) (slice_get (tasks_of w clauses) k)
