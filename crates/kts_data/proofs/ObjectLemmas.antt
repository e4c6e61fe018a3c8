-- What an object says, whole: keys that nothing declares are told after what the declarations say, and what is read keeps what
-- its reading promises.
use Rattle.std.proofs.Common.{◌≡◌, refl, ◌∙◌, ℕ, List, [], true, Ok, Err, Some, None, Result}
use Rattle.std.specs.Prelude.{ℤ, IfOk}
use Rattle.std.specs.List.{Contains}
use Rattle.serde_json.specs.Data.{Data, Members}
use Rattle.serde_json.specs.Find.{as_object}
use Rattle.kts_base.specs.Reads.{Gives}
use Rattle.kts_spec.specs.declared.instance.Instance.{Instance}
use Rattle.kts_spec.specs.declared.schema.Schema.{Schema}
use Rattle.kts_spec.specs.Data.{is_valid}
use Rattle.kts_spec.specs.Schedules.{schedules}
use Rattle.kts_spec.specs.Worlds.{world_of}
use Rattle.kts_data.specs.Faults.{IsNoMemory, fault, fold_read}
use Rattle.kts_data.specs.Instances.{data_names, data_of, empty_instance, value_says, with_declaration}
use Rattle.kts_data.specs.Json.{json_of, keys, unknown_from}
use Rattle.kts_data.specs.Plans.{plan_names, plan_of, value_plans, with_choice}
use Rattle.kts_data.specs.declared.fault.DataFault.{DataFault}
use Rattle.kts_data.specs.declared.fault.Reason.TheVariants.{UnknownName}
use Rattle.kts_data.proofs.Validity.{data_valid, plan_among}

-- a key that no declaration has, after what the declarations say
pub data_key : (schema : Schema) (d : Data) (ms : Members) (inst : Instance) (k : ℕ) → Some ms ≡ as_object d
    → fold_read (with_declaration schema d) empty_instance schema.decls ≡ Ok inst
    → Some k ≡ unknown_from (data_names schema) 0 (keys ms) → value_says schema d ≡ Err (fault None k UnknownName)
unfolding value_says
data_key schema d ms inst k object e unknown = rw (← object, e, ← unknown) refl

-- a key that is no choice, after what the choices say
pub plan_key : (schema : Schema) (inst : Instance) (d : Data) (ms : Members) (plan : List ℤ) (k : ℕ) → Some ms ≡ as_object d
    → fold_read (with_choice inst d) [] schema.choices ≡ Ok plan
    → Some k ≡ unknown_from (plan_names schema) 0 (keys ms) → value_plans schema inst d ≡ Err (fault None k UnknownName)
unfolding value_plans
plan_key schema inst d ms plan k object e unknown = rw (← object, e, ← unknown) refl

-- what the bytes say is what their value says
data_is : (schema : Schema) (bytes : List ℕ) (d : Data) → json_of bytes ≡ Ok d → data_of schema bytes ≡ value_says schema d
unfolding data_of
data_is schema bytes d e = rw e refl

-- an instance that is read is valid
pub data_kept : (schema : Schema) (bytes : List ℕ) (d : Data) (result : Result Instance DataFault) → json_of bytes ≡ Ok d
    → Gives IsNoMemory (λ (inst : Instance). inst) result (value_says schema d)
    → IfOk result (λ inst. is_valid schema inst ≡ true)
data_kept schema bytes d (Ok inst) e says = data_valid schema bytes inst (data_is schema bytes d e ∙ says)
data_kept schema bytes d (Err f) e says = tt

-- the same of a plan
plan_is : (schema : Schema) (inst : Instance) (bytes : List ℕ) (d : Data) → json_of bytes ≡ Ok d → plan_of schema inst bytes ≡ value_plans schema inst d
unfolding plan_of
plan_is schema inst bytes d e = rw e refl

-- a schedule that is read is one of all
pub plan_kept : (schema : Schema) (inst : Instance) (bytes : List ℕ) (d : Data) (result : Result (List ℤ) DataFault) → is_valid schema inst ≡ true → json_of bytes ≡ Ok d
    → Gives IsNoMemory (λ (plan : List ℤ). plan) result (value_plans schema inst d) → IfOk result (λ plan. Contains (schedules (world_of schema inst)) plan)
plan_kept schema inst bytes d (Ok plan) valid e says = plan_among schema inst valid bytes plan (plan_is schema inst bytes d e ∙ says)
plan_kept schema inst bytes d (Err f) valid e says = tt
