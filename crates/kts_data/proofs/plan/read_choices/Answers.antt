use Rattle.std.proofs.Common.{◌∙◌}
use Rattle.std.proofs.lemmas.Result.{err_from_is_err_and}
use Rattle.serde_json.specs.View.{view}
use Rattle.kts_data.specs.Plans.{with_choice}
use Rattle.kts_data.proofs.ChoiceLemmas.{all_distinct, choice_stops, choice_on}
use Rattle.kts_data.proofs.Each.{all_stops, all_on, all_done}
use Rattle.kts_data.proofs.plan.read_choices.Goals as goal

pub rosters_of-requires : goal.rosters_of-requires
rosters_of-requires c =
    let facts = (c.instances_keep.ensures c.args.schema.now c.args.inst.now).0 c.requires in
    rw (c.as_slice.ensures ∙ c.members.ensures) (all_distinct c.args.inst.now.members facts.members)

pub returns-in_err-take_choice : goal.returns-in_err-take_choice
returns-in_err-take_choice c =
    let items = c.as_slice-family-items.ensures ∙ c.choices.ensures in
    let here = rw items at c.loop-family-test.true in
    let members = c.as_slice-in-loop-family.ensures ∙ (c.in_ok-rosters.ensures ∙ (c.as_slice.ensures ∙ c.members.ensures)) in
    let p = err_from_is_err_and c.from_residual-in_err-take_choice.result c.from_residual-in_err-take_choice.ensures.1 in
    let stops = choice_stops c.args.inst.now (view c.args.value.now) c.loop-family.plan c.family-item.result c.as_slice-in-loop-family.result.now
    members _ c.in_err-take_choice.ensures in
    rw (p.1, p.2) (all_stops (with_choice c.args.inst.now (view c.args.value.now)) c.loop-family.plan c.args.schema.now.choices
    c.loop-family.family-index c.family-item.result _ _ here (rw items at c.family-item.is) stops c.loop-family.invariant)

pub loop-family-preserved : goal.loop-family-preserved
loop-family-preserved c =
    let items = c.as_slice-family-items.ensures ∙ c.choices.ensures in
    let here = rw items at c.loop-family-test.true in
    let members = c.as_slice-in-loop-family.ensures ∙ (c.in_ok-rosters.ensures ∙ (c.as_slice.ensures ∙ c.members.ensures)) in
    let on = choice_on c.args.inst.now (view c.args.value.now) c.loop-family.plan c.family-item.result c.as_slice-in-loop-family.result.now members
    c.take_choice.new.plan c.in_ok-take_choice.ensures in
    all_on (with_choice c.args.inst.now (view c.args.value.now)) c.loop-family.plan c.take_choice.new.plan c.args.schema.now.choices
    c.loop-family.family-index c.family-item.result _ here (rw items at c.family-item.is) on c.loop-family.invariant

pub returns : goal.returns
returns c =
    let items = c.as_slice-family-items.ensures ∙ c.choices.ensures in
    all_done (with_choice c.args.inst.now (view c.args.value.now)) c.loop-family.plan c.args.schema.now.choices c.loop-family.family-index _
    (rw items at c.loop-family-test.false) c.loop-family.invariant
