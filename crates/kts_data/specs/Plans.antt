-- The schedule that a plan file says, or the first thing that is wrong: the values of each choice, then keys that are no choice.
use Rattle.std.specs.Prelude.{ℕ, ℤ, List, [], ◌++◌, map, None, Ok}
use Rattle.serde_json.specs.Data.{Data, Members}
use Rattle.serde_json.specs.Find.{as_object}
use Rattle.kts_base.specs.Reads.{and_then}
use Rattle.kts_spec.specs.declared.declarations.Family.{Family}
use Rattle.kts_spec.specs.declared.instance.Instance.{Instance}
use Rattle.kts_spec.specs.declared.schema.Schema.{Schema}
use Rattle.kts_data.specs.Faults.{Read, fault, or_fault, fold_read}
use Rattle.kts_data.specs.Instances.{table_of, or_unknown}
use Rattle.kts_data.specs.Json.{json_of, value_under, keys, unknown_from}
use Rattle.kts_data.specs.declared.fault.Reason.TheVariants.{NotObject}

module _ (inst : Instance) (d : Data) where
  -- the values of choices with those of one more
  unfoldable pub with_choice : List ℤ → Family → Read (List ℤ)
  with_choice before family = and_then (and_then (value_under family.name d) (table_of inst.members family)) (λ values. Ok (before ++ values))

-- the names that a plan file has as keys
abbrev pub plan_names : Schema → List (List ℕ)
plan_names schema = map (λ (family : Family). family.name) schema.choices

abbrev pub object_plans : Schema → Instance → Data → Members → Read (List ℤ)
object_plans schema inst d ms = and_then (fold_read (with_choice inst d) [] schema.choices) (or_unknown (unknown_from (plan_names schema) 0 (keys ms)))

unfoldable pub value_plans : Schema → Instance → Data → Read (List ℤ)
value_plans schema inst d = and_then (or_fault (as_object d) (fault None 0 NotObject)) (object_plans schema inst d)

-- the schedule that the bytes of a plan file say
unfoldable pub plan_of : Schema → Instance → List ℕ → Read (List ℤ)
plan_of schema inst bytes = and_then (json_of bytes) (value_plans schema inst)
