-- Code that searches, and what is assumed of its tasks, its filters and its wake lines.
use Rattle.std.specs.Prelude.{◌≡◌, ◌<◌, ◌≤◌, ℕ, suc, ◌+◌, List, [], length, true, cond, Some, slice_get}
use Rattle.kts_abs.specs.Spaces.{IsSpace}
use Rattle.kts_abs.specs.Values.{Abs}
use Rattle.kts_base.specs.Limits.{most_variables}
use Rattle.kts_clause.specs.declared.clause.Clause.{Clause}
use Rattle.kts_code.specs.declared.instructions.Instr.{Instr}
use Rattle.kts_code.specs.declared.instructions.Instr.TheVariants.{Start, Take, Node, Pick, Emit, Back, Halt, Jump}
use Rattle.kts_code.specs.declared.modes.Mode.TheVariants.{Going}
use Rattle.kts_code.specs.Machine.{step}
use Rattle.kts_code.specs.Reaches.{Reaches}
use Rattle.kts_code.specs.Setups.{Setup, world_in}
use Rattle.kts_code.specs.States.{Item, Register, ChoicePoint, State}
use Rattle.kts_index.specs.declared.pattern.Pattern.{Pattern}
use Rattle.kts_index.specs.Pairs.{is_paired}
use Rattle.kts_index.specs.TaskOrder.{Task}
use Rattle.kts_plan.specs.Asks.{asks_in}
use Rattle.kts_plan.specs.Constraints.{constraints_of, prefixes_of}
use Rattle.kts_plan.specs.Plans.{clauses_of_spec}
use Rattle.kts_plan.specs.TaskReads.{some_reads}
use Rattle.kts_plan.specs.Walks.{passes}
use Rattle.kts_spec.specs.declared.spec.Spec.{Spec}
use Rattle.kts_spec.specs.Data.{is_valid, task_count}
use Rattle.kts_spec.specs.Schedules.{Cell}
use Rattle.kts_spec.specs.Worlds.{world_of}
use Rattle.kts_emit.specs.BodyRuns.{DoesTask, with_task}
use Rattle.kts_emit.specs.Effects.{Kept, IsOnTheWay}

-- ---- places

-- the loop begins at place 1 and the filters at place 3, `split` follows the filters, at `found` a schedule is printed,
-- after it the last choice is undone, and at `stop` the run ends
pub record LoopPlaces (instrs : List Instr) (split found stop : ℕ) : Type 0 where
  pub start : slice_get instrs 0 ≡ Some (Start stop)
  pub take : slice_get instrs 1 ≡ Some (Take 2)
  pub node : slice_get instrs 2 ≡ Some Node
  pub pick : slice_get instrs split ≡ Some (Pick found)
  pub deeper : slice_get instrs (split + 1) ≡ Some (Jump 1)
  pub emit : slice_get instrs found ≡ Some Emit
  pub back : slice_get instrs (found + 1) ≡ Some (Back stop)
  pub further : slice_get instrs (found + 1 + 1) ≡ Some (Jump 1)
  pub halt : slice_get instrs stop ≡ Some Halt

-- a run that goes on in a space, with nothing on its stack
abbrev pub at : ℕ → List Register → List Abs → List ℕ → List ChoicePoint → ℕ → List Item → State
at place registers space queue choices path items = record {
  core = record {
    pc = place;
    stack = [];
    registers = registers;
    space = Some space;
    queue = queue;
    choices = choices;
    path = path;
    mode = Going;
  };
  items = items;
}

-- such a run, whatever its registers
pub data Stands (place : ℕ) (space : List Abs) (queue : List ℕ) (choices : List ChoicePoint) (path : ℕ) (items : List Item) : State → Type 0 where
  Stand : (registers : List Register) → length registers ≡ most_variables
      → Stands place space queue choices path items (at place registers space queue choices path items)

-- ---- tasks

-- from the head of the loop in this state, the task that is taken does in a space what it asks, in so many steps at most with its
-- `take`, and comes back to the head of the loop, or fails at a place
pub record TaskRuns (spec : Spec) (m : Setup) (fail weight k : ℕ) (space : List Abs) (rest : List ℕ) (s : State) : Type 0 where
  pub steps : ℕ
  pub few : suc steps ≤ weight
  pub runs : DoesTask m space (asks_in (world_in m) (clauses_of_spec spec) k space) 1 fail steps (with_task m 2 k rest s)

-- ---- the whole code

-- the code is for the declarations and constraints of a specification, and the data are valid
pub record IsDeclared (spec : Spec) (m : Setup) : Type 0 where
  pub valid : is_valid m.code.schema m.inst ≡ true
  pub world : world_in m ≡ world_of spec.schema m.inst
  pub indexes : m.code.schema.indexes ≡ spec.schema.indexes
  pub tasks : m.code.schema.tasks ≡ prefixes_of (clauses_of_spec spec)

-- patterns pair each task with each cell that it reads, and maybe with more
abbrev pub Covers : List Clause → List Pattern → Type 0
Covers clauses patterns =
    (task : Task) (cell : Cell) → some_reads (slice_get (constraints_of clauses) task.definite) task.tuple (Some cell) ≡ true
    → is_paired patterns cell.choice cell.args task ≡ true

-- Code on data that searches for the schedules of a specification: a task takes at most `task_weight` steps with its `take`, and
-- the filters at most `filter_weight`. They lead to the split where the space passes, and past it where it does not.
pub record SearchCode (spec : Spec) (m : Setup) (task_weight filter_weight : ℕ) : Type 0 where
  pub split : ℕ
  pub found : ℕ
  pub stop : ℕ
  pub declared : IsDeclared spec m
  pub placed : LoopPlaces m.code.instrs split found stop
  pub covers : Covers (clauses_of_spec spec) m.code.index
  pub task : (k : ℕ) (registers : List Register) (space : List Abs) (queue rest : List ℕ) (choices : List ChoicePoint) (path : ℕ) (items : List Item)
      → k < task_count (world_in m) m.code.schema.tasks → IsSpace (world_in m) space
      → TaskRuns spec m (found + 1) task_weight k space rest (at 1 registers space queue choices path items)
  pub filter : (registers : List Register) (space : List Abs) (choices : List ChoicePoint) (path : ℕ) (items : List Item)
      → length registers ≡ most_variables → IsSpace (world_in m) space
      → Reaches (step m) (IsOnTheWay m Kept) (at 3 registers space [] choices path items) filter_weight
      (Stands (cond (passes (world_in m) (clauses_of_spec spec) space) split (found + 1)) space [] choices path items)
