use Rattle.std.proofs.Common.{◌≡◌, map, drop}
use Rattle.serde_json.specs.View.{view}
use Rattle.kts_data.specs.Faults.{fold_read}
use Rattle.kts_data.specs.Instances.{with_row}
use Rattle.kts_data.proofs.values.take_rows.Given as goal

abbrev pub invariant-loop-row : goal.invariant-loop-row
invariant-loop-row l =
    fold_read (with_row l.members l.family l.width) (l.row, l.taken) (drop l.row (map view l.rows))
    ≡ fold_read (with_row l.members l.family l.width) (0, l.fn.taken) (map view l.rows)
