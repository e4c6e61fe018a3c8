-- What a task reads, and which cells it is paired with.
use Rattle.std.specs.Prelude.{ℕ, List, ◌++◌, length, map, flat_map, slice_get, Bool, false, ◌&&◌, nat_eq, nat_lt, Option, Some, None, if◌then◌else◌}
use Rattle.std.specs.List.{list_any}
use Rattle.kts_spec.specs.declared.tree.Term.{Term}
use Rattle.kts_spec.specs.declared.tree.Formula.TheOpen.{Term-F, Var}
use Rattle.kts_spec.specs.declared.tree.Formula.TheFolds.{fold-Term}
use Rattle.kts_spec.specs.Reads.{Access, reads_of, reads_in}
use Rattle.kts_spec.specs.Schedules.{Cell, cells}
use Rattle.kts_spec.specs.Worlds.{World}
use Rattle.kts_clause.specs.declared.clause.Clause.{Clause}
use Rattle.kts_clause.specs.declared.literal.Literal.{Literal}
use Rattle.kts_index.specs.Pairs.{arguments_agree}
use Rattle.kts_index.specs.TaskOrder.{Task}
use Rattle.kts_plan.specs.declared.bound.Bound.{Bound}
use Rattle.kts_plan.specs.declared.bound.Bound.TheVariants.{Rest, Side}
use Rattle.kts_plan.specs.Constraints.{Constraint, constraints_of, tasks_of}

-- the accesses in a bound
abbrev pub bound_reads : Bound → List Access
bound_reads (Rest addends) = flat_map (λ (a : Bool × Term). reads_of a.1) addends
bound_reads (Side t) = reads_of t

-- what a constraint reads, in order: the accesses in its other literals, then those in its bound; not that of its head
abbrev pub constraint_reads : Constraint → List Access
constraint_reads c = flat_map (λ (l : Literal). reads_in l.formula) c.others ++ bound_reads c.head.bound

abbrev pub variable_step : Term-F (Unit {0}) (Option ℕ) → Option ℕ
variable_step (Var k) = Some k
variable_step other = None

-- the variable that a term is
unfoldable pub variable_of : Term → Option ℕ
variable_of = fold-Term (Unit {0}) (Option ℕ) (λ _. tt) variable_step

-- the same where it is one of the first so many
abbrev pub one_of_first : ℕ → Option ℕ → Option ℕ
one_of_first n None = None
one_of_first n (Some k) = if nat_lt k n then Some k else None

-- the arguments of an access that are variables of a prefix of this length
abbrev pub prefix_arguments : ℕ → List Term → List (Option ℕ)
prefix_arguments n args = map (λ t. one_of_first n (variable_of t)) args

-- whether an access names the choice, and agrees with the cell at these members in each argument that is a prefix variable
abbrev pub access_agrees : ℕ → List ℕ → ℕ → List ℕ → Access → Bool
access_agrees x cell n tuple a = nat_eq a.0 x && arguments_agree tuple (prefix_arguments n a.1) cell

-- whether a constraint reads the cell of a choice at these members, where its variables are those of the tuple
abbrev pub reads_cell : ℕ → List ℕ → List ℕ → Constraint → Bool
reads_cell x cell tuple c = list_any (access_agrees x cell (length c.prefix) tuple) (constraint_reads c)

-- the same of a constraint, and of a cell, that is there
abbrev pub some_reads : Option Constraint → List ℕ → Option Cell → Bool
some_reads None tuple cell = false
some_reads (Some c) tuple None = false
some_reads (Some c) tuple (Some cell) = reads_cell cell.choice cell.args tuple c

abbrev pub task_is_paired : List Clause → Option Task → Option Cell → Bool
task_is_paired clauses None cell = false
task_is_paired clauses (Some task) cell = some_reads (slice_get (constraints_of clauses) task.definite) task.tuple cell

-- whether the task of this number is paired with the cell of that number
abbrev pub is_paired_with : World → List Clause → ℕ → ℕ → Bool
is_paired_with w clauses k c = task_is_paired clauses (slice_get (tasks_of w clauses) k) (slice_get (cells w) c)
