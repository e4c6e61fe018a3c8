use Rattle.std.proofs.lemmas.Result.{err_from_is_err_and}
use Rattle.serde_json.specs.View.{view}
use Rattle.kts_data.specs.Instances.{with_value}
use Rattle.kts_data.proofs.Each.{seen_stops, seen_on, seen_done}
use Rattle.kts_data.proofs.values.take_values.Goals as goal

pub returns-in_err-take_value : goal.returns-in_err-take_value
returns-in_err-take_value c =
    let p = err_from_is_err_and c.from_residual.result c.from_residual.ensures.1 in
    rw (p.1, p.2)
    (seen_stops (with_value c.args.members.now c.args.family.now) view c.args.values.now c.loop-value.value-index c.value-item.result
    c.loop-value-test.true c.value-item.is _ _ _ c.in_err-take_value.ensures c.loop-value.invariant)

pub loop-value-preserved : goal.loop-value-preserved
loop-value-preserved c =
    seen_on (with_value c.args.members.now c.args.family.now) view c.args.values.now c.loop-value.value-index c.value-item.result
    c.loop-value-test.true c.value-item.is _ _ _ c.in_ok-take_value.ensures c.loop-value.invariant

pub returns : goal.returns
returns c = seen_done (with_value c.args.members.now c.args.family.now) view _ c.args.values.now c.loop-value.value-index _ c.loop-value-test.false c.loop-value.invariant
