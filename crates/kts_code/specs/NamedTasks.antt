-- Runs told by the tasks that they take, and not by the places of these in the queue.
use Rattle.std.specs.Prelude.{◌≡◌, ℕ, suc, List, [], ◌∷◌, ◌++◌, Option, Some, Bool, true, false, is_some, slice_get, ◌&&◌}
use Rattle.kts_code.specs.declared.instructions.Instr.{Instr}
use Rattle.kts_code.specs.declared.instructions.Instr.TheVariants as i
use Rattle.kts_code.specs.declared.modes.Mode.{Mode}
use Rattle.kts_code.specs.declared.modes.Mode.TheVariants.{Going, Halted, Trapped}
use Rattle.kts_code.specs.Machine.{step, run_of, on_take}
use Rattle.kts_code.specs.Setups.{Setup}
use Rattle.kts_code.specs.States.{Core, State, opening}

-- whether some task waits
abbrev pub has_tasks : List ℕ → Bool
has_tasks [] = false
has_tasks (t ∷ queue) = true

-- whether the step of an instruction takes a task
abbrev pub takes_by : Option Instr → Core → Bool
takes_by (Some (i.Take to)) s = is_some s.space && has_tasks s.queue
takes_by _ s = false

-- whether the next step of a run takes a task
abbrev pub takes_in : Mode → Setup → Core → Bool
takes_in Going m s = takes_by (slice_get m.code.instrs s.pc) s
takes_in Halted m s = false
takes_in (Trapped _) m s = false

abbrev pub takes : Setup → Core → Bool
takes m s = takes_in s.mode m s

-- A step from one state to another that takes these tasks, at most one: one that waits, whatever its place, and the others
-- go on to wait in their order.
pub data IsStep (m : Setup) : State → List ℕ → State → Type 0 where
  Taken : (s : State) (to t : ℕ) (before behind : List ℕ) → takes m s.core ≡ true → slice_get m.code.instrs s.core.pc ≡ Some (i.Take to)
      → s.core.queue ≡ before ++ t ∷ behind
      → IsStep m s (t ∷ []) (record { core = on_take m s.core to (Some (t, before ++ behind)); items = s.items })
  NoneTaken : (s : State) → takes m s.core ≡ false → IsStep m s [] (step m 0 s)

-- so many steps that take these tasks lead from the opening state to this one
pub data IsRun (m : Setup) : List ℕ → ℕ → State → Type 0 where
  Opening : IsRun m [] 0 opening
  Further : (tasks more : List ℕ) (n : ℕ) (s s2 : State) → IsRun m tasks n s → IsStep m s more s2 → IsRun m (tasks ++ more) (suc n) s2

-- runs by places and runs by tasks are the same
pub record RunsNameTasks (m : Setup) : Type 0 where
  pub named : (picks : ℕ → ℕ) (n : ℕ) → (tasks : List ℕ) × IsRun m tasks n (run_of m picks n)
  pub placed : (tasks : List ℕ) (n : ℕ) (s : State) → IsRun m tasks n s → (picks : ℕ → ℕ) × (run_of m picks n ≡ s)
