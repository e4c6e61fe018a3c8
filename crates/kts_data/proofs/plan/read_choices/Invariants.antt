use Rattle.std.proofs.Common.{◌≡◌, [], drop}
use Rattle.serde_json.specs.View.{view}
use Rattle.kts_data.specs.Faults.{fold_read}
use Rattle.kts_data.specs.Plans.{with_choice}
use Rattle.kts_data.proofs.plan.read_choices.Given as goal

abbrev pub invariant-loop-family : goal.invariant-loop-family
invariant-loop-family l =
    fold_read (with_choice l.inst (view l.value)) l.plan (drop l.family-index l.schema.choices) ≡ fold_read (with_choice l.inst (view l.value)) [] l.schema.choices
