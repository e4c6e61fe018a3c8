-- An instance that is read is valid, and a plan that is read is one of the schedules.
use Rattle.std.proofs.Common.{◌≡◌, ℕ, List, true, Ok, ℤ}
use Rattle.std.specs.List.{Contains}
use Rattle.kts_spec.specs.declared.instance.Instance.{Instance}
use Rattle.kts_spec.specs.declared.schema.Schema.{Schema}
use Rattle.kts_spec.specs.Data.{is_valid}
use Rattle.kts_spec.specs.Schedules.{schedules}
use Rattle.kts_spec.specs.Worlds.{world_of}
use Rattle.kts_data.specs.Instances.{data_of}
use Rattle.kts_data.specs.Plans.{plan_of}
use Rattle.kts_data.proofs.DataLaws.{data_sound}
use Rattle.kts_data.proofs.PlanLaws.{plan_sound}

-- the instance of a data file is valid
pub data_valid : (schema : Schema) (bytes : List ℕ) (inst : Instance) → data_of schema bytes ≡ Ok inst → is_valid schema inst ≡ true
data_valid schema bytes inst h = (data_sound schema bytes inst h).valid

-- the schedule of a plan file is one of all
pub plan_among : (schema : Schema) (inst : Instance) → is_valid schema inst ≡ true → (bytes : List ℕ) (plan : List ℤ)
    → plan_of schema inst bytes ≡ Ok plan → Contains (schedules (world_of schema inst)) plan
plan_among schema inst valid bytes plan h = (plan_sound schema inst bytes plan h).among
