use Rattle.std.proofs.lemmas.Result.{err_from_is_err_and}
use Rattle.kts_show.proofs.ManifestParts.{line_first, line_second, line_whole}
use Rattle.kts_show.proofs.manifest.put_manifest_line.Goals as goal

pub returns-in_err-put_pieces : goal.returns-in_err-put_pieces
returns-in_err-put_pieces g c =
    let p = err_from_is_err_and c.from_residual.result c.from_residual.ensures.1 in
    rw p.1 (line_first c.args.inst.now c.args.family.now c.args.own.now c.args.m (rw (c.bytes.ensures.bytes, c.name-name.ensures, c.bytes-2.ensures.bytes, c.requires.named) at c.in_err-put_pieces.ensures))

pub returns-in_err-put_holders : goal.returns-in_err-put_holders
returns-in_err-put_holders g c =
    let p = err_from_is_err_and c.from_residual-in_err-put_holders.result c.from_residual-in_err-put_holders.ensures.1 in
    rw p.1 (line_second c.args.inst.now c.args.family.now c.args.own.now c.args.m (rw (c.bytes.ensures.bytes, c.name-name.ensures, c.bytes-2.ensures.bytes, c.requires.named) at c.in_ok-put_pieces.ensures) c.in_err-put_holders.ensures)

pub returns : goal.returns
returns g c =
    line_whole c.args.inst.now c.args.family.now c.args.own.now c.args.m c.put.result _ (rw (c.bytes.ensures.bytes, c.name-name.ensures, c.bytes-2.ensures.bytes, c.requires.named) at c.in_ok-put_pieces.ensures) c.in_ok-put_holders.ensures c.put.ensures.wrote
