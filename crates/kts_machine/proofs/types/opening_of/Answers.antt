use Rattle.std.proofs.Common.{◌≡◌, ◌∙◌, ◌≤◌, ◌++◌, ap, sym, subst, length, map, take, replicate, slice_index, true, arith}
use Rattle.kts_base.specs.Limits.{most_arguments}
use Rattle.kts_mean.specs.Bounds.{AllIn, members_of}
use Rattle.kts_spec.specs.Schemas.{is_type}
use Rattle.kts_abs.specs.Spaces.{type_value}
use Rattle.kts_spec.specs.Places.{count_of}
use Rattle.kts_spec.specs.Worlds.{world_of, sizes_of}
use Rattle.kts_machine.specs.TypeCells.{IsOpening, types_of}
use Rattle.kts_machine.proofs.DataFacts.{sizes}
use Rattle.kts_machine.proofs.TypesOfCells.{choice_at, opening-more, opening-all}
use Rattle.kts_machine.proofs.types.opening_of.Goals as goal

pub count_tuples-count-requires-clause-declared : goal.count_tuples-count-requires-clause-declared
count_tuples-count-requires-clause-declared g c =
    let at = choice_at c.args.schema.now c.args.inst.now c.requires.valid c.choices.result.now c.as_slice-family-items.result.now c.loop-family.family-index c.family-item.result
    c.as_slice-family-items.ensures c.choices.ensures c.loop-family-test.true c.family-item.is in
    subst (AllIn (length c.args.inst.now.members)) (sym (c.as_slice.ensures ∙ c.args-in-loop-family.ensures)) at.facts.declared

pub count_tuples-count-requires-clause-few : goal.count_tuples-count-requires-clause-few
count_tuples-count-requires-clause-few g c =
    let at = choice_at c.args.schema.now c.args.inst.now c.requires.valid c.choices.result.now c.as_slice-family-items.result.now c.loop-family.family-index c.family-item.result
    c.as_slice-family-items.ensures c.choices.ensures c.loop-family-test.true c.family-item.is in
    subst (λ l. length l ≤ most_arguments) (sym (c.as_slice.ensures ∙ c.args-in-loop-family.ensures)) at.facts.few

pub count_tuples-count-requires-clause-sizes : goal.count_tuples-count-requires-clause-sizes
count_tuples-count-requires-clause-sizes g c = sizes c.args.schema.now c.args.inst.now c.requires.valid

pub push_type-requires : goal.push_type-requires
push_type-requires g c =
    let at = choice_at c.args.schema.now c.args.inst.now c.requires.valid c.choices.result.now c.as_slice-family-items.result.now c.loop-family.family-index c.family-item.result
    c.as_slice-family-items.ensures c.choices.ensures c.loop-family-test.true c.family-item.is in
    let kind : is_type (length c.args.inst.now.members) c.kind.result ≡ true = subst (λ kind. is_type (length c.args.inst.now.members) kind ≡ true) (sym c.kind.ensures) at.facts.kind in
    (omega arith, (c.requires.one_word, (c.requires.few_words, (kind, sizes c.args.schema.now c.args.inst.now c.requires.valid))))

pub loop-family-preserved : goal.loop-family-preserved
loop-family-preserved g c =
    let at = choice_at c.args.schema.now c.args.inst.now c.requires.valid c.choices.result.now c.as_slice-family-items.result.now c.loop-family.family-index c.family-item.result
    c.as_slice-family-items.ensures c.choices.ensures c.loop-family-test.true c.family-item.is in
    let count : c.count_tuples-count.result ≡ count_of (sizes_of (world_of c.args.schema.now c.args.inst.now) c.family-item.result) =
    c.count_tuples-count.ensures ∙ ap (λ l. count_of (map (slice_index (map length c.args.inst.now.members)) l)) (c.as_slice.ensures ∙ c.args-in-loop-family.ensures) in
    let pushed : IsOpening (types_of (world_of c.args.schema.now c.args.inst.now) (take c.loop-family.family-index c.args.schema.now.choices)
    ++ replicate (count_of (sizes_of (world_of c.args.schema.now c.args.inst.now) c.family-item.result)) (type_value (members_of c.args.inst.now) c.family-item.result.kind))
    c.push_type.new.opening.cells c.push_type.new.opening.is_whole =
    rw (← count, ← c.kind.ensures) (c.in_ok-push_type.ensures (types_of (world_of c.args.schema.now c.args.inst.now) (take c.loop-family.family-index c.args.schema.now.choices)) c.loop-family.invariant) in
    opening-more c.args.schema.now c.args.inst.now c.loop-family.family-index c.family-item.result c.push_type.new.opening.cells c.push_type.new.opening.is_whole at pushed

pub returns : goal.returns
returns g c = opening-all c.args.schema.now c.args.inst.now c.loop-family.family-index c.loop-family.opening.cells c.loop-family.opening.is_whole (omega (arith, c.loop-family-test.false, ap length (c.as_slice-family-items.ensures ∙ c.choices.ensures))) c.loop-family.invariant
