use Rattle.std.proofs.lemmas.Result.{err_from_is_err_and}
use Rattle.kts_show.proofs.Sections.{text_first, text_second, text_whole}
use Rattle.kts_show.proofs.schedule.put_schedule.Goals as goal

pub returns-in_err-put_numbered : goal.returns-in_err-put_numbered
returns-in_err-put_numbered g c =
    let p = err_from_is_err_and c.from_residual.result c.from_residual.ensures.1 in
    rw p.1 (text_first c.args.schema.now c.args.inst.now c.args.number c.args.values.now c.in_err-put_numbered.ensures)

pub returns-in_err-put_choices : goal.returns-in_err-put_choices
returns-in_err-put_choices g c =
    let p = err_from_is_err_and c.from_residual-in_err-put_choices.result c.from_residual-in_err-put_choices.ensures.1 in
    rw p.1 (text_second c.args.schema.now c.args.inst.now c.args.number c.args.values.now c.in_ok-put_numbered.ensures c.in_err-put_choices.ensures)

pub returns : goal.returns
returns g c =
    text_whole c.args.schema.now c.args.inst.now c.args.number c.args.values.now c.put_manifests.result _ c.in_ok-put_numbered.ensures c.in_ok-put_choices.ensures c.put_manifests.ensures
