-- The propagation of a space, whatever tasks are taken.
use Rattle.std.specs.Prelude.{◌≡◌, ◌⊎◌, ◌<◌, ◌≤◌, ℕ, suc, ◌+◌, ◌*◌, List, [], ◌∷◌, length, true, Option, Some, None, slice_get}
use Rattle.kts_abs.specs.Spaces.{IsSpace}
use Rattle.kts_abs.specs.Values.{Abs, room_of}
use Rattle.kts_base.specs.Limits.{most_variables}
use Rattle.kts_clause.specs.declared.clause.Clause.{Clause}
use Rattle.kts_code.specs.declared.instructions.Instr.TheVariants.{Node}
use Rattle.kts_code.specs.Queues.{waits, readers}
use Rattle.kts_code.specs.Reaches.{Reaches}
use Rattle.kts_code.specs.Setups.{Setup, world_in}
use Rattle.kts_code.specs.States.{Item, Register, ChoicePoint}
use Rattle.kts_emit.specs.Effects.{leaves}
use Rattle.kts_plan.specs.Plans.{clauses_of_spec}
use Rattle.kts_plan.specs.Solutions.{is_met, IsLeast, NoneAbove}
use Rattle.kts_spec.specs.declared.spec.Spec.{Spec}
use Rattle.kts_spec.specs.Data.{task_count}
use Rattle.kts_spec.specs.Worlds.{World}
use Rattle.kts_search.specs.Bases.{Tracked, track}
use Rattle.kts_search.specs.SearchCodes.{at, SearchCode}

-- ---- each moment

-- the least solution above a base
abbrev pub IsLeastOf : World → List Clause → Option (List Abs) → Option (List Abs) → Type 0
IsLeastOf w clauses (Some base) (Some space) = IsLeast w clauses base space
IsLeastOf w clauses (Some base) None = ⊥
IsLeastOf w clauses None space = ⊥

-- there is a base, and no solution above it
abbrev pub HasNone : World → List Clause → Option (List Abs) → Type 0
HasNone w clauses (Some base) = NoneAbove w clauses base
HasNone w clauses None = ⊥

-- at a node the space is the least solution above the base, where a head goes to its label there is none, and the path count is at
-- most this number
pub record IsRight (spec : Spec) (m : Setup) (most : ℕ) (x : Tracked) : Type 0 where
  pub node : slice_get m.code.instrs x.state.core.pc ≡ Some Node → IsLeastOf (world_in m) (clauses_of_spec spec) x.base x.state.core.space
  pub head : leaves m x.state ≡ true → HasNone (world_in m) (clauses_of_spec spec) x.base
  pub path : x.state.core.path ≤ most

-- ---- how many tasks may still be taken

-- how many tasks a cell wakes
abbrev pub reader_count : Setup → ℕ → ℕ
reader_count m k = length (readers m k)

-- for each cell from the i-th on, so many tasks as often as it can rise
abbrev pub rises_left : (ℕ → ℕ) → ℕ → List Abs → ℕ
rises_left count i [] = 0
rises_left count i (a ∷ space) = count i * room_of a + rises_left count (suc i) space

-- those that wait, and those that rises of cells wake
abbrev pub tasks_left : Setup → List Abs → List ℕ → ℕ
tasks_left m space queue = length queue + rises_left (reader_count m) 0 space

-- ---- the law

-- tasks wait, among them all whose demands the space does not meet
pub record IsQueue (spec : Spec) (m : Setup) (space : List Abs) (queue : List ℕ) : Type 0 where
  pub tasks : (k : ℕ) → waits queue k ≡ true → k < task_count (world_in m) m.code.schema.tasks
  pub unmet : (k : ℕ) → (waits queue k ≡ true) ⊎ (is_met (world_in m) (clauses_of_spec spec) k space ≡ true)

-- the run is at the node with the least solution above the base and so many tasks that may be left at most, or, where there is no
-- solution, where the last choice is undone
pub data Settled (spec : Spec) (m : Setup) (base : List Abs) (moves back most : ℕ) (choices : List ChoicePoint) (items : List Item) : Tracked → Type 0 where
  Least : (registers : List Register) (space : List Abs) (path : ℕ) → length registers ≡ most_variables
      → IsLeast (world_in m) (clauses_of_spec spec) base space → path + tasks_left m space [] ≤ most
      → Settled spec m base moves back most choices items
      (record { state = at 2 registers space [] choices path items; base = Some base; moves = moves })
  Nothing : (registers : List Register) (space : List Abs) (queue : List ℕ) (path : ℕ) → length registers ≡ most_variables
      → NoneAbove (world_in m) (clauses_of_spec spec) base → path ≤ most
      → Settled spec m base moves back most choices items
      (record { state = at back registers space queue choices path items; base = Some base; moves = moves })

-- From the head of the loop, when tasks wait among which are all that the space does not meet, whichever are taken: at most so many
-- are taken as may be left, and all is right at each moment on the way.
abbrev pub PropagationSettles : Type 0
PropagationSettles =
    (spec : Spec) (m : Setup) (task_weight filter_weight : ℕ) (code : SearchCode spec m task_weight filter_weight)
    (most moves : ℕ) (registers : List Register) (base : List Abs) (queue : List ℕ) (choices : List ChoicePoint) (path : ℕ) (items : List Item)
    → length registers ≡ most_variables → IsSpace (world_in m) base → IsQueue spec m base queue → path + tasks_left m base queue ≤ most
    → Reaches (track m) (IsRight spec m most)
    (record { state = at 1 registers base queue choices path items; base = Some base; moves = moves })
    (1 + most * task_weight) (Settled spec m base moves (code.found + 1) most choices items)
