-- What the steps of terms, formulas, heads and jumps leave as it is.
use Rattle.std.specs.Prelude.{◌≡◌, ℕ, true, false, slice_get}
use Rattle.kts_code.specs.Machine.{step}
use Rattle.kts_code.specs.NamedTasks.{takes}
use Rattle.kts_code.specs.Setups.{Setup}
use Rattle.kts_code.specs.States.{State}
use Rattle.kts_emit.specs.Effects.{is_of_tasks}

-- a step takes no task, and leaves the choices, the path count and the items as they are
pub record KeepsSearch (m : Setup) (s s2 : State) : Type 0 where
  pub takes_none : takes m s.core ≡ false
  pub choices : s2.core.choices ≡ s.core.choices
  pub path : s2.core.path ≡ s.core.path
  pub items : s2.items ≡ s.items

abbrev pub TaskStepsKeepTheSearch : Type 0
TaskStepsKeepTheSearch =
    (m : Setup) (pick : ℕ) (s : State) → is_of_tasks (slice_get m.code.instrs s.core.pc) ≡ true → KeepsSearch m s (step m pick s)
