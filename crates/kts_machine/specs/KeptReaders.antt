-- The tasks that the cells wake, as a machine keeps them.
use Rattle.std.specs.Prelude.{◌≡◌, ℕ, List, Some, slice_get}
use Rattle.kts_code.specs.declared.code.Code.{Code}
use Rattle.kts_code.specs.Queues.{readers}
use Rattle.kts_code.specs.Setups.{setup_of}
use Rattle.kts_spec.specs.declared.instance.Instance.{Instance}

-- the list of a cell has the tasks that it wakes, rising
abbrev pub AreReaders : Code → Instance → List (List ℕ) → Type 0
AreReaders code inst lists = (k : ℕ) (list : List ℕ) → slice_get lists k ≡ Some list → list ≡ readers (setup_of code inst) k
