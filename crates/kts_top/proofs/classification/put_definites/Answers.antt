use Rattle.std.proofs.Common.{◌+◌, drop}
use Rattle.std.specs.List.{flat_map, enumerate_from}
use Rattle.std.proofs.lemmas.Result.{err_from_is_err_and}
use Rattle.kts_base.proofs.Pieces.{goes_on, stops, ends}
use Rattle.kts_top.specs.ClassifyTexts.{definite_line}
use Rattle.kts_top.proofs.ClassifiedClauses.{item_there, numbered_here, numbered_end}
use Rattle.kts_top.proofs.classification.put_definites.Goals as goal

pub returns-in_err-put_definite : goal.returns-in_err-put_definite
returns-in_err-put_definite g c =
    let p = err_from_is_err_and c.from_residual.result c.from_residual.ensures.1 in
    let line = definite_line c.args.spec.now.formulas c.args.spec.now.schema.choices c.args.clause.now in
    let own = c.args.own.now in
    let k = c.loop-k.k in
    let there = item_there own k c.index-own-k.result c.loop-k-test.true c.index-own-k.is in
    rw p.1 (stops (flat_map line (enumerate_from (c.args.first + (k + 1)) (drop (k + 1) own))) c.loop-k.invariant (numbered_here line c.args.first own k c.index-own-k.result there) c.in_err-put_definite.ensures)

pub loop-k-preserved : goal.loop-k-preserved
loop-k-preserved g c =
    let line = definite_line c.args.spec.now.formulas c.args.spec.now.schema.choices c.args.clause.now in
    let own = c.args.own.now in
    let k = c.loop-k.k in
    let there = item_there own k c.index-own-k.result c.loop-k-test.true c.index-own-k.is in
    goes_on (flat_map line (enumerate_from (c.args.first + (k + 1)) (drop (k + 1) own))) c.loop-k.invariant (numbered_here line c.args.first own k c.index-own-k.result there) c.in_ok-put_definite.ensures

pub returns : goal.returns
returns g c =
    let line = definite_line c.args.spec.now.formulas c.args.spec.now.schema.choices c.args.clause.now in
    ends c.loop-k.invariant (numbered_end line c.args.first c.args.own.now c.loop-k.k c.loop-k-test.false)
