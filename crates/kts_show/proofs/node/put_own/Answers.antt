use Rattle.std.proofs.Common.{◌+◌, drop, map}
use Rattle.std.specs.List.{flat_map, zip}
use Rattle.std.proofs.lemmas.Result.{err_from_is_err_and}
use Rattle.kts_base.proofs.Pieces.{goes_on, stops, ends}
use Rattle.kts_spec.specs.Schedules.{tuples}
use Rattle.kts_abs.specs.Cells.{value_of}
use Rattle.kts_show.specs.Keys.{sizes_in}
use Rattle.kts_abs.specs.NodeTexts.{known_text}
use Rattle.kts_show.proofs.NodeParts.{cell_here, cell_end}
use Rattle.kts_show.proofs.node.put_own.Goals as goal

pub returns-in_err-put_known : goal.returns-in_err-put_known
returns-in_err-put_known g c =
    let p = err_from_is_err_and c.from_residual.result c.from_residual.ensures.1 in
    let inst = c.args.inst.now in
    let family = c.args.family.now in
    let own = c.args.own.now in
    let k = c.loop-at.at in
    let here = cell_here inst family own c.requires.whole k c.index-own-at.result c.loop-at-test.true c.index-own-at.is in
    rw p.1 (stops (flat_map (known_text inst family) (drop (k + 1) (zip (tuples (sizes_in inst family)) (map value_of own)))) c.loop-at.invariant here c.in_err-put_known.ensures)

pub loop-at-preserved : goal.loop-at-preserved
loop-at-preserved g c =
    let inst = c.args.inst.now in
    let family = c.args.family.now in
    let own = c.args.own.now in
    let k = c.loop-at.at in
    let here = cell_here inst family own c.requires.whole k c.index-own-at.result c.loop-at-test.true c.index-own-at.is in
    goes_on (flat_map (known_text inst family) (drop (k + 1) (zip (tuples (sizes_in inst family)) (map value_of own)))) c.loop-at.invariant here c.in_ok-put_known.ensures

pub returns : goal.returns
returns g c = ends c.loop-at.invariant (cell_end c.args.inst.now c.args.family.now c.args.own.now c.requires.whole c.loop-at.at c.loop-at-test.false)
