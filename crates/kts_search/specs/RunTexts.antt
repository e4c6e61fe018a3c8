-- The text that a run of the code of a specification prints.
use Rattle.std.specs.Prelude.{◌≡◌, ◌≢◌, ℕ, length, true, Some}
use Rattle.kts_code.specs.declared.code.Code.{Code}
use Rattle.kts_code.specs.declared.modes.TrapKind.{TrapKind}
use Rattle.kts_code.specs.declared.modes.Mode.TheVariants.{Halted, Trapped}
use Rattle.kts_code.specs.Machine.{run}
use Rattle.kts_code.specs.Printed.{schedules_of}
use Rattle.kts_code.specs.States.{State}
use Rattle.kts_spec.specs.declared.ending.Ending.TheVariants.{End, Budget}
use Rattle.kts_spec.specs.declared.instance.Instance.{Instance}
use Rattle.kts_spec.specs.declared.spec.Spec.{Spec}
use Rattle.kts_spec.specs.Data.{is_valid}
use Rattle.kts_spec.specs.Texts.{text, due, begun}
use Rattle.kts_search.specs.WholeScheme.{whole_scheme}

-- the number of schedules that are printed in a state
abbrev pub count_of : State → ℕ
count_of s = length (schedules_of s.items)

-- In this state the text is that of the answer where the run has halted, and that of its first schedules where its steps
-- are spent; it has not trapped.
pub record IsTextOf (spec : Spec) (inst : Instance) (code : Code) (s : State) : Type 0 where
  pub whole : s.core.mode ≡ Halted → text code.schema inst (schedules_of s.items) (End (count_of s)) ≡ due spec inst
  pub front : text code.schema inst (schedules_of s.items) (Budget (count_of s)) ≡ begun spec inst (count_of s)
  pub safe : (kind : TrapKind) → s.core.mode ≢ Trapped kind

-- so it is in each state of each run of the code of a specification, on all valid data, whatever tasks are taken
abbrev pub WholeTextIsRight : Type 0
WholeTextIsRight =
    (spec : Spec) (inst : Instance) (code : Code) → whole_scheme spec ≡ Some code → is_valid code.schema inst ≡ true
    → (picks : ℕ → ℕ) (n : ℕ) → IsTextOf spec inst code (run code inst picks n)
