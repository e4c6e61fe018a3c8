-- The definite constraints of clauses, each with what it needs of its clause, and their tasks.
use Rattle.std.specs.Prelude.{ℕ, List, [], map, slice_index_or}
use Rattle.kts_spec.specs.Worlds.{World}
use Rattle.kts_clause.specs.declared.literal.Literal.{Literal}
use Rattle.kts_clause.specs.declared.clause.Clause.{Clause}
use Rattle.kts_index.specs.TaskOrder.{Task, tasks}
use Rattle.kts_plan.specs.declared.head.Head.{Head}
use Rattle.kts_plan.specs.declared.definite.Definite.{Definite}
use Rattle.kts_plan.specs.Heads.{all_but}
use Rattle.kts_plan.specs.Plans.{definites_of}

-- the head with the prefix of its clause and the clause's other literals
pub record Constraint : Type 0 where
  pub prefix : List ℕ
  pub others : List Literal
  pub head : Head

-- the clause that stands for one that is not there
abbrev pub no_clause : Clause
no_clause = record { formula = 0; clause = 0; prefix = []; literals = [] }

-- the clause of this number
abbrev pub clause_at : List Clause → ℕ → Clause
clause_at clauses k = slice_index_or clauses k no_clause

-- a constraint of a plan, with its clause
abbrev pub constraint_of : List Clause → Definite → Constraint
constraint_of clauses d = record {
  prefix = (clause_at clauses d.clause).prefix;
  others = all_but d.literal (clause_at clauses d.clause).literals;
  head = d.head;
}

-- all of them, in order
abbrev pub constraints_of : List Clause → List Constraint
constraints_of clauses = map (constraint_of clauses) (definites_of clauses)

-- the indexes of the variables of each
abbrev pub prefixes_of : List Clause → List (List ℕ)
prefixes_of clauses = map (λ (c : Constraint). c.prefix) (constraints_of clauses)

-- the tasks: each constraint with each tuple of members for its prefix, in order
abbrev pub tasks_of : World → List Clause → List Task
tasks_of w clauses = tasks w (prefixes_of clauses)
