-- What holds of each run, of any code.
use Rattle.std.specs.Prelude.{◌≡◌, ◌≢◌, ℕ, ◌+◌, List, ◌++◌, false}
use Rattle.kts_code.specs.declared.modes.Mode.TheVariants.{Going}
use Rattle.kts_code.specs.Machine.{step, run_of}
use Rattle.kts_code.specs.NamedTasks.{takes}
use Rattle.kts_code.specs.Setups.{Setup}
use Rattle.kts_code.specs.States.{Item, State}

-- a run that has halted or trapped stays as it is
abbrev pub WhatIsOverStays : Type 0
WhatIsOverStays =
    (m : Setup) (picks : ℕ → ℕ) (n more : ℕ) → (run_of m picks n).core.mode ≢ Going
    → run_of m picks (n + more) ≡ run_of m picks n

-- what a run has written is never taken back
abbrev pub ItemsAreKept : Type 0
ItemsAreKept =
    (m : Setup) (picks : ℕ → ℕ) (n more : ℕ)
    → (rest : List Item) × ((run_of m picks (n + more)).items ≡ (run_of m picks n).items ++ rest)

-- a step that takes no task does the same, whatever is picked
abbrev pub PicksMatterToTakes : Type 0
PicksMatterToTakes = (m : Setup) (s : State) (p q : ℕ) → takes m s.core ≡ false → step m p s ≡ step m q s
