-- What becomes of a space by what a task asks of it, and what that changes of a run.
use Rattle.std.specs.Prelude.{◌≡◌, ℕ, ◌+◌, List, length, slice_get, slice_set, Bool, true, false, not, ◌&&◌, nat_eq, Option, Some, None, if◌then◌else◌}
use Rattle.kts_abs.specs.Demands.{Demand, meets, raised}
use Rattle.kts_abs.specs.Values.{Abs}
use Rattle.kts_code.specs.declared.instructions.Instr.{Instr}
use Rattle.kts_code.specs.declared.instructions.Instr.TheVariants as i
use Rattle.kts_code.specs.Machine.{step}
use Rattle.kts_code.specs.Queues.{woken}
use Rattle.kts_code.specs.Setups.{Setup}
use Rattle.kts_code.specs.States.{State}
use Rattle.kts_plan.specs.Solutions.{cell_at}

-- the space stays, a cell of it is raised to a value, or nothing is left of a cell
pub data Effect : Type 0 where
  Kept : Effect
  Raised : ℕ → Abs → Effect
  Emptied : Effect

-- of a cell that does not meet what is asked of it
abbrev pub effect_of_raise : ℕ → Option Abs → Effect
effect_of_raise k None = Emptied
effect_of_raise k (Some a) = Raised k a

-- of what is asked of a space
abbrev pub effect_of : List Abs → Option (ℕ × Demand) → Effect
effect_of space None = Kept
effect_of space (Some (k, d)) = if meets d (cell_at space k) then Kept else effect_of_raise k (raised d (cell_at space k))

-- ---- the end of a task

-- the run goes on at a place, in a space and with this queue; all else is as before, but for the members in the registers
pub record HasMoved (place : ℕ) (space : List Abs) (queue : List ℕ) (s s2 : State) : Type 0 where
  pub place_is : s2.core.pc ≡ place
  pub space_is : s2.core.space ≡ Some space
  pub queue_is : s2.core.queue ≡ queue
  pub stack : s2.core.stack ≡ s.core.stack
  pub registers : length s2.core.registers ≡ length s.core.registers
  pub choices : s2.core.choices ≡ s.core.choices
  pub path : s2.core.path ≡ s.core.path
  pub mode : s2.core.mode ≡ s.core.mode
  pub items : s2.items ≡ s.items

-- the task is done, and a raised cell has woken the tasks that read it; or nothing is left of a cell, and the task has failed
abbrev pub HasDone : Setup → List Abs → ℕ → ℕ → Effect → State → State → Type 0
HasDone m space done fail Kept s = HasMoved done space s.core.queue s
HasDone m space done fail (Raised k a) s = HasMoved done (slice_set space k a) (woken m k s.core.queue) s
HasDone m space done fail Emptied s = HasMoved fail space s.core.queue s

-- ---- on the way

-- whether an instruction is one of those of terms, formulas and heads, or a jump
abbrev pub is_of_tasks : Option Instr → Bool
is_of_tasks None = false
is_of_tasks (Some (i.Start to)) = false
is_of_tasks (Some (i.Take to)) = false
is_of_tasks (Some i.Node) = false
is_of_tasks (Some (i.Pick to)) = false
is_of_tasks (Some i.Emit) = false
is_of_tasks (Some (i.Back to)) = false
is_of_tasks (Some i.Halt) = false
is_of_tasks (Some other) = true

-- the label of a head's instruction
abbrev pub head_label : Option Instr → Option ℕ
head_label (Some (i.AtLeast x to)) = Some to
head_label (Some (i.AtMost x to)) = Some to
head_label (Some (i.Within x to)) = Some to
head_label (Some (i.Without x to)) = Some to
head_label other = None

-- whether a step from one place to another has gone to the label, and not to the next place
abbrev pub went_to : Option ℕ → ℕ → ℕ → Bool
went_to None from place = false
went_to (Some to) from place = nat_eq place to && not (nat_eq place (from + 1))

-- whether the next step is that of a head, and leaves to its label
abbrev pub leaves : Setup → State → Bool
leaves m s = went_to (head_label (slice_get m.code.instrs s.core.pc)) s.core.pc (step m 0 s).core.pc

-- a state on the way through a task of this effect: a head leaves only where nothing is left of its cell
pub record IsOnTheWay (m : Setup) (effect : Effect) (s : State) : Type 0 where
  pub of_tasks : is_of_tasks (slice_get m.code.instrs s.core.pc) ≡ true
  pub fails : leaves m s ≡ true → effect ≡ Emptied
