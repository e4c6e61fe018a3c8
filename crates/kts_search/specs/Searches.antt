-- The search in every order of tasks: what it writes, and when it ends.
use Rattle.std.specs.Prelude.{◌≡◌, ◌≢◌, ◌≤◌, ℕ, ◌+◌, ◌*◌, ℤ, List, [], ◌++◌, length, map, true, Option, Some, None, slice_get}
use Rattle.kts_abs.specs.Items.{Item}
use Rattle.kts_abs.specs.Spaces.{IsSpace, initial, kept_in}
use Rattle.kts_abs.specs.Values.{Abs}
use Rattle.kts_code.specs.declared.instructions.Instr.TheVariants.{Node}
use Rattle.kts_code.specs.declared.modes.Mode.TheVariants.{Halted, Trapped}
use Rattle.kts_code.specs.declared.modes.TrapKind.{TrapKind}
use Rattle.kts_code.specs.Machine.{run_of}
use Rattle.kts_code.specs.Prints.{Prints}
use Rattle.kts_code.specs.Setups.{Setup, world_in}
use Rattle.kts_emit.specs.Effects.{leaves}
use Rattle.kts_index.specs.TaskBound.{bound}
use Rattle.kts_plan.specs.Plans.{clauses_of_spec}
use Rattle.kts_plan.specs.Walks.{WalkFrom}
use Rattle.kts_spec.specs.declared.spec.Spec.{Spec}
use Rattle.kts_spec.specs.Answers.{answer, formulas_of}
use Rattle.kts_spec.specs.Places.{count_of}
use Rattle.kts_spec.specs.Schedules.{cell_values}
use Rattle.kts_spec.specs.Worlds.{World}
use Rattle.kts_search.specs.Bases.{base_of, moves_of}
use Rattle.kts_search.specs.Propagation.{IsLeastOf, HasNone}
use Rattle.kts_search.specs.SearchCodes.{SearchCode}

-- a space to begin with, or none
abbrev pub IsOrigin : World → Option (List Abs) → Type 0
IsOrigin w None = Unit {0}
IsOrigin w (Some space) = IsSpace w space

-- how many tasks are taken on the way to a space, at most
abbrev pub path_bound : Setup → ℕ
path_bound m = bound m.code.index m.code.schema m.inst

-- the product of the numbers of values of all cells' types: how many schedules there are, of the answer or not
abbrev pub schedule_count : Setup → ℕ
schedule_count m = count_of (map length (cell_values (world_in m)))

-- steps that are enough
abbrev pub enough : Setup → ℕ → ℕ → ℕ
enough m task_weight filter_weight = 8 + (2 * schedule_count m + 1) * (8 + path_bound m * task_weight + filter_weight)

-- ---- what holds of all runs, whatever tasks are taken and after any number of steps

-- the items are a front of the walk from the origin, all of it where the run has halted, and no step traps
pub record WritesWalk (spec : Spec) (m : Setup) : Type 0 where
  pub walk : List Item
  pub is : WalkFrom (world_in m) (clauses_of_spec spec) m.origin walk
  pub front : (picks : ℕ → ℕ) (n : ℕ) → (rest : List Item) × (walk ≡ (run_of m picks n).items ++ rest)
  pub whole : (picks : ℕ → ℕ) (n : ℕ) → (run_of m picks n).core.mode ≡ Halted → (run_of m picks n).items ≡ walk
  pub safe : (picks : ℕ → ℕ) (n : ℕ) (kind : TrapKind) → (run_of m picks n).core.mode ≢ Trapped kind

-- at a node the space is the least solution above the base, where a head goes to its label there is none, and no path is longer
-- than the bound
pub record FindsLeast (spec : Spec) (m : Setup) : Type 0 where
  pub node : (picks : ℕ → ℕ) (n : ℕ) → slice_get m.code.instrs (run_of m picks n).core.pc ≡ Some Node
      → IsLeastOf (world_in m) (clauses_of_spec spec) (base_of m picks n) (run_of m picks n).core.space
  pub head : (picks : ℕ → ℕ) (n : ℕ) → leaves m (run_of m picks n) ≡ true
      → HasNone (world_in m) (clauses_of_spec spec) (base_of m picks n)
  pub path : (picks : ℕ → ℕ) (n : ℕ) → (run_of m picks n).core.path ≤ path_bound m

-- so many steps are enough, and few of them split a space or undo a split
pub record EndsInTime (m : Setup) (task_weight filter_weight : ℕ) : Type 0 where
  pub halts : (picks : ℕ → ℕ) (n : ℕ) → enough m task_weight filter_weight ≤ n → (run_of m picks n).core.mode ≡ Halted
  pub moves : (picks : ℕ → ℕ) (n : ℕ) → moves_of m picks n ≤ 2 * schedule_count m

-- all this, from every origin
pub record Searches (spec : Spec) (m : Setup) (task_weight filter_weight : ℕ) : Type 0 where
  pub walk : WritesWalk spec m
  pub least : FindsLeast spec m
  pub ends : EndsInTime m task_weight filter_weight

abbrev pub CodeSearches : Type 0
CodeSearches =
    (spec : Spec) (m : Setup) (task_weight filter_weight : ℕ) → SearchCode spec m task_weight filter_weight → IsOrigin (world_in m) m.origin
    → Searches spec m task_weight filter_weight

-- ---- what is printed

-- the schedules of the answer that a space holds, in order; from no space there are none
abbrev pub answer_in : Spec → Setup → Option (List Abs) → List (List ℤ)
answer_in spec m None = []
answer_in spec m (Some space) = kept_in (world_in m) (formulas_of spec) space

-- the code prints them from every origin, and from the space of all schedules the answer
pub record PrintsAnswers : Type 0 where
  pub inside : (spec : Spec) (m : Setup) (task_weight filter_weight : ℕ) → SearchCode spec m task_weight filter_weight
      → IsOrigin (world_in m) m.origin → Prints m (answer_in spec m m.origin)
  pub whole : (spec : Spec) (m : Setup) (task_weight filter_weight : ℕ) → SearchCode spec m task_weight filter_weight
      → m.origin ≡ initial (world_in m) → Prints m (answer spec m.inst)
