use Rattle.std.proofs.Common.{◌≡◌, map, drop}
use Rattle.serde_json.specs.View.{view}
use Rattle.kts_data.specs.Faults.{fold_read}
use Rattle.kts_data.specs.Instances.{with_value}
use Rattle.kts_data.proofs.values.take_values.Given as goal

abbrev pub invariant-loop-value : goal.invariant-loop-value
invariant-loop-value l =
    fold_read (with_value l.members l.family) l.taken (drop l.value-index (map view l.values))
    ≡ fold_read (with_value l.members l.family) l.fn.taken (map view l.values)
