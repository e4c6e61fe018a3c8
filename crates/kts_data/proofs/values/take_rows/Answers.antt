use Rattle.std.proofs.Common.{◌≡◌, ◌∙◌, ap, length, arith, Ok}
use Rattle.std.proofs.lemmas.Result.{err_from_is_err_and}
use Rattle.serde_json.specs.View.{view}
use Rattle.kts_data.specs.Instances.{with_row}
use Rattle.kts_data.proofs.Each.{seen_stops, seen_on, seen_done}
use Rattle.kts_data.proofs.values.take_rows.Goals as goal

pub returns-in_err-take_row : goal.returns-in_err-take_row
returns-in_err-take_row c =
    let p = err_from_is_err_and c.from_residual.result c.from_residual.ensures.1 in
    rw (p.1, p.2)
    (seen_stops (with_row c.args.members.now c.args.family.now c.args.width) view c.args.rows.now c.loop-row.row c.index-rows-row.result
    c.loop-row-test.true c.index-rows-row.is _ _ _ c.in_err-take_row.ensures c.loop-row.invariant)

pub loop-row-preserved : goal.loop-row-preserved
loop-row-preserved c =
    seen_on (with_row c.args.members.now c.args.family.now c.args.width) view c.args.rows.now c.loop-row.row c.index-rows-row.result
    c.loop-row-test.true c.index-rows-row.is _ _ _ c.in_ok-take_row.ensures c.loop-row.invariant

pub returns : goal.returns
returns c =
    let last : c.loop-row.row ≡ length c.args.rows.now = omega arith in
    seen_done (with_row c.args.members.now c.args.family.now c.args.width) view _ c.args.rows.now c.loop-row.row _ c.loop-row-test.false c.loop-row.invariant
    ∙ ap (λ n. Ok (n, c.loop-row.taken)) last
