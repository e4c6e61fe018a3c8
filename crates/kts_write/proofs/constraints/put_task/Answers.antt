use Rattle.std.proofs.Common.{◌++◌, ◌∷◌, [], map}
use Rattle.std.specs.Prelude.{codes, decimal}
use Rattle.std.proofs.lemmas.Result.{err_from_is_err_and}
use Rattle.kts_base.proofs.Pieces.{after, stops_first, stops_later}
use Rattle.kts_spec.specs.Texts.{newline}
use Rattle.kts_write.specs.Spaced.{spaced}
use Rattle.kts_write.proofs.LineTexts.{line_parts}
use Rattle.kts_write.proofs.constraints.put_task.Goals as goal

pub returns-in_err-put_pieces : goal.returns-in_err-put_pieces
returns-in_err-put_pieces g c =
    let p = err_from_is_err_and c.from_residual.result c.from_residual.ensures.1 in
    let prefix = map decimal c.args.prefix.now in
    let d = rw (c.as_bytes.ensures.value, c.format.ensures.text) at c.in_err-put_pieces.ensures in
    rw p.1 (rw (line_parts (codes "task") (decimal c.args.entry ∷ []) prefix) at (stops_first (spaced prefix ++ newline) d))

pub returns-in_err-put_indexes : goal.returns-in_err-put_indexes
returns-in_err-put_indexes g c =
    let p = err_from_is_err_and c.from_residual-in_err-put_indexes.result c.from_residual-in_err-put_indexes.ensures.1 in
    let prefix = map decimal c.args.prefix.now in
    let d = rw (c.as_bytes.ensures.value, c.format.ensures.text) at c.in_ok-put_pieces.ensures in
    rw p.1 (rw (line_parts (codes "task") (decimal c.args.entry ∷ []) prefix) at (stops_later d (stops_first newline c.in_err-put_indexes.ensures)))

pub returns : goal.returns
returns g c =
    let prefix = map decimal c.args.prefix.now in
    let d = rw (c.as_bytes.ensures.value, c.format.ensures.text) at c.in_ok-put_pieces.ensures in
    let all = after c.put.result _ (spaced prefix ++ newline) d (after c.put.result _ newline c.in_ok-put_indexes.ensures c.put.ensures.wrote) in
    rw (line_parts (codes "task") (decimal c.args.entry ∷ []) prefix) at all
