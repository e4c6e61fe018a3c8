use Rattle.std.proofs.Common.{◌++◌, ◌∷◌, [], map, append-nil}
use Rattle.std.proofs.lemmas.Result.{err_from_is_err_and}
use Rattle.kts_base.proofs.Pieces.{after, stops_first, stops_later}
use Rattle.kts_syntax.specs.Texts.{spaced, name_text}
use Rattle.kts_syntax.proofs.printer.put_some.Goals as goal

pub returns-in_err-put_pieces : goal.returns-in_err-put_pieces
returns-in_err-put_pieces g c =
    let p = err_from_is_err_and c.from_residual.result c.from_residual.ensures.1 in
    rw p.1 (stops_first (spaced (map name_text c.args.others.now) ++ 41 ∷ []) (rw (append-nil, c.bytes.ensures.bytes, c.name.ensures) at c.in_err-put_pieces.ensures))

pub returns-in_err-put_names : goal.returns-in_err-put_names
returns-in_err-put_names g c =
    let p = err_from_is_err_and c.from_residual-in_err-put_names.result c.from_residual-in_err-put_names.ensures.1 in
    let d = rw (append-nil, c.bytes.ensures.bytes, c.name.ensures) at c.in_ok-put_pieces.ensures in
    rw p.1 (stops_later d (stops_first (41 ∷ []) c.in_err-put_names.ensures))

pub returns : goal.returns
returns g c =
    let d = rw (append-nil, c.bytes.ensures.bytes, c.name.ensures) at c.in_ok-put_pieces.ensures in
    after _ _ (spaced (map name_text c.args.others.now) ++ 41 ∷ []) d (after _ _ (41 ∷ []) c.in_ok-put_names.ensures c.put.ensures.wrote)
