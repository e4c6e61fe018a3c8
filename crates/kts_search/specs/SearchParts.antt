-- The whole code of a search: the loop with its filters, and behind it the bodies of its tasks.
use Rattle.std.specs.Prelude.{◌≡◌, ◌≤◌, ℕ, suc, ◌+◌, max, List, [], ◌++◌, length, map, fold, true, cond, slice_get}
use Rattle.kts_abs.specs.Spaces.{IsSpace}
use Rattle.kts_abs.specs.Values.{Abs}
use Rattle.kts_base.specs.Limits.{most_variables}
use Rattle.kts_clause.specs.declared.clause.Clause.{Clause}
use Rattle.kts_code.specs.declared.instructions.Instr.{Instr}
use Rattle.kts_code.specs.Machine.{step}
use Rattle.kts_code.specs.Reaches.{Reaches}
use Rattle.kts_code.specs.Setups.{Setup, world_in}
use Rattle.kts_code.specs.States.{Item, Register, ChoicePoint}
use Rattle.kts_emit.specs.BodyRuns.{HasDeclarations, body_places, bodies_code, entries_from, some_weight}
use Rattle.kts_emit.specs.Effects.{Kept, IsOnTheWay}
use Rattle.kts_emit.specs.Fragments.{Fragment}
use Rattle.kts_index.specs.TaskOrder.{Task}
use Rattle.kts_plan.specs.Constraints.{constraints_of, prefixes_of, tasks_of}
use Rattle.kts_plan.specs.Plans.{clauses_of_spec}
use Rattle.kts_plan.specs.Walks.{passes, residual_clauses}
use Rattle.kts_spec.specs.declared.spec.Spec.{Spec}
use Rattle.kts_spec.specs.Data.{is_valid}
use Rattle.kts_spec.specs.Related.{AllOf}
use Rattle.kts_spec.specs.Worlds.{World}
use Rattle.kts_search.specs.ClauseFilters.{filters_by, weight_by, PushesClause}
use Rattle.kts_search.specs.Instrs.{head, tail}
use Rattle.kts_search.specs.SearchCodes.{at, Stands, Covers, SearchCode}

-- these filters in the loop, and these bodies behind it
abbrev pub code_with : List Instr → List Instr → List Instr
code_with filters bodies = head (length filters) ++ (filters ++ (tail (length filters) ++ bodies))

-- the code of a specification with these filters, whose wake lines may pair more tasks with cells than read them
pub record IsCodeOf (spec : Spec) (m : Setup) (filters : List Instr) : Type 0 where
  pub declarations : HasDeclarations spec m.code.schema
  pub tasks : m.code.schema.tasks ≡ prefixes_of (clauses_of_spec spec)
  pub entries : m.code.entries ≡ entries_from (9 + length filters) (constraints_of (clauses_of_spec spec))
  pub instrs : m.code.instrs ≡ code_with filters (bodies_code 1 (6 + length filters) (constraints_of (clauses_of_spec spec)) (9 + length filters))
  pub places : body_places ≤ m.code.stack
  pub covers : Covers (clauses_of_spec spec) m.code.index

-- in so many steps at most, filters of this length lead from their first place behind them where the space passes, and where it does
-- not, to where the last choice is undone
abbrev pub FiltersLead : Spec → Setup → ℕ → ℕ → Type 0
FiltersLead spec m size weight =
    (registers : List Register) (space : List Abs) (choices : List ChoicePoint) (path : ℕ) (items : List Item)
    → length registers ≡ most_variables → IsSpace (world_in m) space
    → Reaches (step m) (IsOnTheWay m Kept) (at 3 registers space [] choices path items) weight
    (Stands (cond (passes (world_in m) (clauses_of_spec spec) space) (3 + size) (6 + size)) space [] choices path items)

-- the weight of a task: its `take` and its body
abbrev pub weight_of_task : World → List Clause → Task → ℕ
weight_of_task w clauses task = suc (some_weight w (slice_get (constraints_of clauses) task.definite))

-- the largest weight of a task; 0 where there is none
abbrev pub largest_task : World → List Clause → ℕ
largest_task w clauses = fold max 0 (map (weight_of_task w clauses) (tasks_of w clauses))

-- The code of a specification searches where its filters lead; those by the residual clauses do, each with code that pushes its truth;
-- those of a specification without residual clauses are none.
pub record SpecificationsSearch : Type 0 where
  pub filtered : (spec : Spec) (m : Setup) (filters : List Instr) (weight : ℕ) → IsCodeOf spec m filters → is_valid m.code.schema m.inst ≡ true
      → FiltersLead spec m (length filters) weight → SearchCode spec m (largest_task (world_in m) (clauses_of_spec spec)) weight
  pub by_clauses : (spec : Spec) (m : Setup) (code : Clause → Fragment) (weight : Clause → ℕ) (n : ℕ)
      → length (filters_by code (residual_clauses (clauses_of_spec spec)) 3 (6 + n)) ≡ n
      → IsCodeOf spec m (filters_by code (residual_clauses (clauses_of_spec spec)) 3 (6 + n)) → is_valid m.code.schema m.inst ≡ true
      → AllOf (λ c. PushesClause m (code c) (weight c) c) (residual_clauses (clauses_of_spec spec))
      → SearchCode spec m (largest_task (world_in m) (clauses_of_spec spec)) (weight_by weight (residual_clauses (clauses_of_spec spec)))
  pub unfiltered : (spec : Spec) (m : Setup) → IsCodeOf spec m [] → is_valid m.code.schema m.inst ≡ true
      → residual_clauses (clauses_of_spec spec) ≡ [] → SearchCode spec m (largest_task (world_in m) (clauses_of_spec spec)) 0
