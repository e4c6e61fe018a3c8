-- What it means that code prints a list of schedules.
use Rattle.std.specs.Prelude.{◌≡◌, ◌≢◌, ◌≤◌, ℕ, List, ◌++◌, ℤ}
use Rattle.kts_code.specs.declared.modes.TrapKind.{TrapKind}
use Rattle.kts_code.specs.declared.modes.Mode.TheVariants.{Halted, Trapped}
use Rattle.kts_code.specs.Machine.{run_of}
use Rattle.kts_code.specs.Printed.{schedules_of}
use Rattle.kts_code.specs.Setups.{Setup}

-- whatever tasks are taken and however many steps are done: what is printed is a front of the list, all of it where the
-- run has halted, no step traps, and after some number of steps every run has halted
pub record Prints (m : Setup) (list : List (List ℤ)) : Type 0 where
  pub front : (picks : ℕ → ℕ) (n : ℕ) → (rest : List (List ℤ)) × (list ≡ schedules_of (run_of m picks n).items ++ rest)
  pub whole : (picks : ℕ → ℕ) (n : ℕ) → (run_of m picks n).core.mode ≡ Halted → schedules_of (run_of m picks n).items ≡ list
  pub safe : (picks : ℕ → ℕ) (n : ℕ) (kind : TrapKind) → (run_of m picks n).core.mode ≢ Trapped kind
  pub halts : (most : ℕ) × ((picks : ℕ → ℕ) (n : ℕ) → most ≤ n → (run_of m picks n).core.mode ≡ Halted)
