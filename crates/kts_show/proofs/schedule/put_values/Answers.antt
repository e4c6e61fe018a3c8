use Rattle.std.proofs.Common.{◌+◌, drop, get_or, pos, refl, rules}
use Rattle.std.specs.List.{flat_map}
use Rattle.std.proofs.lemmas.Int.{to_z-of_z}
use Rattle.std.proofs.lemmas.Result.{err_from_is_err_and}
use mir.Syntax.{w64}
use mir.Val.{SFits}
use Rattle.kts_base.proofs.Pieces.{goes_on, stops, ends}
use Rattle.kts_spec.specs.Texts.{entry_text}
use Rattle.kts_show.specs.Keys.{sizes_in}
use Rattle.kts_show.specs.OwnTexts.{own_entries}
use Rattle.kts_show.proofs.Walks.{walk_here, walk_end}
use Rattle.kts_show.proofs.schedule.put_values.Goals as goal

pub returns-in_err-put_value : goal.returns-in_err-put_value
returns-in_err-put_value g c =
    let p = err_from_is_err_and c.from_residual.result c.from_residual.ensures.1 in
    let inst = c.args.inst.now in
    let family = c.args.family.now in
    let own = c.args.own.now in
    let k = c.loop-at.at in
    let f : SFits w64 (get_or own k (pos 0)) = search rules in
    let step = walk_here (entry_text inst family) (sizes_in inst family) own c.requires.whole k (get_or own k (pos 0)) (pos 0) c.loop-at-test.true refl in
    rw p.1 (stops (flat_map (entry_text inst family) (drop (k + 1) (own_entries inst family own))) c.loop-at.invariant step (rw (to_z-of_z w64 _ f) at c.in_err-put_value.ensures))

pub loop-at-preserved : goal.loop-at-preserved
loop-at-preserved g c =
    let inst = c.args.inst.now in
    let family = c.args.family.now in
    let own = c.args.own.now in
    let k = c.loop-at.at in
    let f : SFits w64 (get_or own k (pos 0)) = search rules in
    let step = walk_here (entry_text inst family) (sizes_in inst family) own c.requires.whole k (get_or own k (pos 0)) (pos 0) c.loop-at-test.true refl in
    goes_on (flat_map (entry_text inst family) (drop (k + 1) (own_entries inst family own))) c.loop-at.invariant step (rw (to_z-of_z w64 _ f) at c.in_ok-put_value.ensures)

pub returns : goal.returns
returns g c =
    ends c.loop-at.invariant (walk_end (entry_text c.args.inst.now c.args.family.now) (sizes_in c.args.inst.now c.args.family.now) c.args.own.now c.requires.whole c.loop-at.at c.loop-at-test.false)
