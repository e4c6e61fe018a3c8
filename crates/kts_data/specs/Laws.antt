-- What is read of data and of plans is what their files say.
use Rattle.std.specs.Prelude.{◌≡◌, ◌↔◌, ℕ, ℤ, List, true, Ok}
use Rattle.kts_spec.specs.declared.instance.Instance.{Instance}
use Rattle.kts_spec.specs.declared.schema.Schema.{Schema}
use Rattle.kts_spec.specs.Data.{is_valid}
use Rattle.kts_data.specs.Files.{AreNamed, DataOf, PlanOf}
use Rattle.kts_data.specs.Instances.{data_of}
use Rattle.kts_data.specs.Plans.{plan_of}

-- an instance is read exactly where a data file says it
abbrev pub DataAreRead : Type 0
DataAreRead = (schema : Schema) (bytes : List ℕ) (inst : Instance) → (data_of schema bytes ≡ Ok inst) ↔ DataOf schema bytes inst

-- on valid data whose members have names, a schedule is read exactly where a plan file says it
abbrev pub PlansAreRead : Type 0
PlansAreRead =
    (schema : Schema) (inst : Instance) → is_valid schema inst ≡ true → AreNamed inst.members
    → (bytes : List ℕ) (schedule : List ℤ) → (plan_of schema inst bytes ≡ Ok schedule) ↔ PlanOf schema inst bytes schedule
