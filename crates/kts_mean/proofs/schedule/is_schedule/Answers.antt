use Rattle.std.proofs.Common.{arith, sym, ◌∙◌, ap, subst, length, map}
use Rattle.kts_spec.specs.Places.{count_of}
use Rattle.kts_spec.specs.Worlds.{world_of, size_of}
use Rattle.kts_spec.specs.declared.schema.Schema.{Schema}
use Rattle.kts_spec.proofs.Conditions.{instance_facts}
use Rattle.kts_spec.proofs.TypedAccesses.{few_members}
use Rattle.kts_mean.specs.Bounds.{AllIn}
use Rattle.kts_mean.proofs.ScheduleFits.{for_all_choices, choice_facts, own_cells, short_left, wrong_left, none_left}
use Rattle.kts_mean.proofs.schedule.is_schedule.Goals as goal

pub count_tuples-count-requires-clause-declared : goal.count_tuples-count-requires-clause-declared
count_tuples-count-requires-clause-declared c =
    let kept = instance_facts c.args.spec.now.schema c.args.inst.now c.requires in
    let declared = (choice_facts c.args.spec.now.schema c.args.inst.now c.as_slice-family-items.result.now (c.as_slice-family-items.ensures ∙ c.choices.ensures ∙ ap (λ (s : Schema). s.choices) c.schema.ensures) c.loop-family.family-index c.family-item.result c.loop-family-test.true c.family-item.is).declared in
    subst (AllIn (length c.args.inst.now.members)) (sym (c.as_slice.ensures ∙ c.args-in-loop-family.ensures)) (subst (λ n. AllIn n c.family-item.result.args) (sym kept.indexes) declared)

pub count_tuples-count-requires-clause-few : goal.count_tuples-count-requires-clause-few
count_tuples-count-requires-clause-few c =
    let few = (choice_facts c.args.spec.now.schema c.args.inst.now c.as_slice-family-items.result.now (c.as_slice-family-items.ensures ∙ c.choices.ensures ∙ ap (λ (s : Schema). s.choices) c.schema.ensures) c.loop-family.family-index c.family-item.result c.loop-family-test.true c.family-item.is).few in
    let same = ap length (c.as_slice.ensures ∙ c.args-in-loop-family.ensures) in
    omega (arith, few, same)

pub count_tuples-count-requires-clause-sizes : goal.count_tuples-count-requires-clause-sizes
count_tuples-count-requires-clause-sizes c i = few_members c.args.inst.now.members i (instance_facts c.args.spec.now.schema c.args.inst.now c.requires).members

pub are_values-requires : goal.are_values-requires
are_values-requires c =
    let kept = instance_facts c.args.spec.now.schema c.args.inst.now c.requires in
    let typed = (choice_facts c.args.spec.now.schema c.args.inst.now c.as_slice-family-items.result.now (c.as_slice-family-items.ensures ∙ c.choices.ensures ∙ ap (λ (s : Schema). s.choices) c.schema.ensures) c.loop-family.family-index c.family-item.result c.loop-family-test.true c.family-item.is).kind in
    rw (c.kind.ensures, kept.indexes) typed

pub returns-then-rest-count : goal.returns-then-rest-count
returns-then-rest-count c =
    let no = short_left c.args.spec.now.schema c.args.inst.now c.as_slice-family-items.result.now (c.as_slice-family-items.ensures ∙ c.choices.ensures ∙ ap (λ (s : Schema). s.choices) c.schema.ensures) c.loop-family.family-index c.family-item.result c.loop-family-test.true c.family-item.is c.loop-family.rest.now c.count_tuples-count.result (c.count_tuples-count.ensures ∙ ap (λ indexes. count_of (map (size_of (world_of c.args.spec.now.schema c.args.inst.now)) indexes)) (c.as_slice.ensures ∙ c.args-in-loop-family.ensures)) c.if-rest-count.true in
    (λ h. cc, λ h. sym no ∙ c.loop-family.invariant ∙ (for_all_choices c.args.spec.now.schema c.args.inst.now c.args.schedule.now).1 h)

pub returns-then-not-are_values : goal.returns-then-not-are_values
returns-then-not-are_values c =
    let wrong = rw c.kind.ensures at (sym c.are_values.ensures ∙ c.if-not-are_values.true) in
    let no = wrong_left c.args.spec.now.schema c.args.inst.now c.as_slice-family-items.result.now (c.as_slice-family-items.ensures ∙ c.choices.ensures ∙ ap (λ (s : Schema). s.choices) c.schema.ensures) c.loop-family.family-index c.family-item.result c.loop-family-test.true c.family-item.is c.loop-family.rest.now c.count_tuples-count.result (c.count_tuples-count.ensures ∙ ap (λ indexes. count_of (map (size_of (world_of c.args.spec.now.schema c.args.inst.now)) indexes)) (c.as_slice.ensures ∙ c.args-in-loop-family.ensures)) wrong in
    (λ h. cc, λ h. sym no ∙ c.loop-family.invariant ∙ (for_all_choices c.args.spec.now.schema c.args.inst.now c.args.schedule.now).1 h)

pub offset_bounds-rest-count : goal.offset_bounds-rest-count
offset_bounds-rest-count c =
    let few = own_cells c.args.spec.now.schema c.args.inst.now c.as_slice-family-items.result.now (c.as_slice-family-items.ensures ∙ c.choices.ensures ∙ ap (λ (s : Schema). s.choices) c.schema.ensures) c.loop-family.family-index c.family-item.result c.loop-family-test.true c.family-item.is c.requires in
    let count = (c.count_tuples-count.ensures ∙ ap (λ indexes. count_of (map (size_of (world_of c.args.spec.now.schema c.args.inst.now)) indexes)) (c.as_slice.ensures ∙ c.args-in-loop-family.ensures)) in
    omega (arith, few, count)

pub returns : goal.returns
returns c =
    let ended = c.loop-family-test.false in
    let is = c.is_empty.ensures ∙ sym (none_left c.args.spec.now.schema c.args.inst.now c.as_slice-family-items.result.now (c.as_slice-family-items.ensures ∙ c.choices.ensures ∙ ap (λ (s : Schema). s.choices) c.schema.ensures) c.loop-family.family-index c.loop-family.rest.now (omega (arith, ended))) ∙ c.loop-family.invariant in
    let whole = for_all_choices c.args.spec.now.schema c.args.inst.now c.args.schedule.now in
    (λ h. whole.0 (sym is ∙ h), λ h. is ∙ whole.1 h)
