use Rattle.std.proofs.lemmas.Result.{err_from_is_err_and}
use Rattle.std.proofs.Common.{◌++◌}
use Rattle.kts_base.proofs.Pieces.{stops_first, stops_later, after}
use Rattle.kts_spec.specs.Texts.{newline}
use Rattle.kts_show.specs.OwnTexts.{own_values_text}
use Rattle.kts_show.proofs.schedule.put_choice.Goals as goal

pub returns-in_err-put : goal.returns-in_err-put
returns-in_err-put g c =
    let p = err_from_is_err_and c.from_residual.result c.from_residual.ensures.1 in
    let values = own_values_text c.args.inst.now c.args.family.now c.args.own.now in
    rw p.1 (stops_first (values ++ newline) (rw (c.bytes.ensures.bytes, c.name.ensures) at c.in_err-put.ensures.wrote))

pub returns-in_err-put_values : goal.returns-in_err-put_values
returns-in_err-put_values g c =
    let p = err_from_is_err_and c.from_residual-in_err-put_values.result c.from_residual-in_err-put_values.ensures.1 in
    rw p.1 (stops_later (rw (c.bytes.ensures.bytes, c.name.ensures) at c.in_ok-put.ensures.wrote) (stops_first newline c.in_err-put_values.ensures))

pub returns : goal.returns
returns g c =
    let values = own_values_text c.args.inst.now c.args.family.now c.args.own.now in
    after _ _ (values ++ newline) (rw (c.bytes.ensures.bytes, c.name.ensures) at c.in_ok-put.ensures.wrote) (after _ _ newline c.in_ok-put_values.ensures c.put-2.ensures.wrote)
