use Rattle.std.proofs.Common.{◌≡◌, sym, ◌∙◌, ap, arith, drop, take, length, ℤ, List}
use Rattle.kts_spec.specs.declared.declarations.Family.{Family}
use Rattle.kts_spec.specs.Places.{count_of, offset}
use Rattle.kts_spec.specs.Schemas.{family_at}
use Rattle.kts_spec.specs.Worlds.{world_of}
use Rattle.kts_show.specs.Keys.{sizes_in}
use Rattle.kts_show.proofs.Sections.{choice_there, choice_over, family_is, section_fits, next_section}
use Rattle.kts_show.proofs.manifest.own_values.Goals as goal

pub count_tuples-count-requires : goal.count_tuples-count-requires
count_tuples-count-requires c =
    let items = c.as_slice-families.ensures ∙ c.choices.ensures in
    let l = ap length items in
    let t = c.loop-k-test.true in
    let h = c.requires.declared in
    choice_over c.args.schema.now c.args.inst.now c.loop-k.k c.index-families-k.result
    (choice_there c.args.schema.now c.as_slice-families.result.now items c.loop-k.k c.index-families-k.result (omega (arith, l, t, h)) c.index-families-k.is) c.requires.valid

pub split_at-parts-requires : goal.split_at-parts-requires
split_at-parts-requires c =
    let items = c.as_slice-families.ensures ∙ c.choices.ensures in
    let l = ap length items in
    let t = c.loop-k-test.true in
    let h = c.requires.declared in
    let there = choice_there c.args.schema.now c.as_slice-families.result.now items c.loop-k.k c.index-families-k.result (omega (arith, l, t, h)) c.index-families-k.is in
    section_fits c.args.schema.now c.args.inst.now c.loop-k.k c.index-families-k.result there c.args.values.now c.loop-k.rest.now c.count_tuples-count.result c.count_tuples-count.ensures c.loop-k.invariant c.requires.whole

pub loop-k-preserved : goal.loop-k-preserved
loop-k-preserved c =
    let items = c.as_slice-families.ensures ∙ c.choices.ensures in
    let l = ap length items in
    let t = c.loop-k-test.true in
    let h = c.requires.declared in
    let there = choice_there c.args.schema.now c.as_slice-families.result.now items c.loop-k.k c.index-families-k.result (omega (arith, l, t, h)) c.index-families-k.is in
    c.split_at-parts.ensures.back
    ∙ next_section c.args.schema.now c.args.inst.now c.loop-k.k c.index-families-k.result there c.args.values.now c.loop-k.rest.now c.count_tuples-count.result c.count_tuples-count.ensures c.loop-k.invariant

pub count_tuples-size-requires : goal.count_tuples-size-requires
count_tuples-size-requires c =
    let items = c.as_slice-families.ensures ∙ c.choices.ensures in
    let l = ap length items in
    let h = c.requires.declared in
    choice_over c.args.schema.now c.args.inst.now c.args.x c.index-families-x.result
    (choice_there c.args.schema.now c.as_slice-families.result.now items c.args.x c.index-families-x.result (omega (arith, l, h)) c.index-families-x.is) c.requires.valid

pub split_at-own-requires : goal.split_at-own-requires
split_at-own-requires c =
    let items = c.as_slice-families.ensures ∙ c.choices.ensures in
    let l = ap length items in
    let h = c.requires.declared in
    let there = choice_there c.args.schema.now c.as_slice-families.result.now items c.args.x c.index-families-x.result (omega (arith, l, h)) c.index-families-x.is in
    let k = c.loop-k.auto.k-end in
    let ended = c.loop-k-test.false in
    let at : c.loop-k.k ≡ c.args.x = omega (arith, k, ended) in
    let here = c.loop-k.invariant ∙ ap (λ x. drop (offset (world_of c.args.schema.now c.args.inst.now) x) c.args.values.now) at in
    section_fits c.args.schema.now c.args.inst.now c.args.x c.index-families-x.result there c.args.values.now c.loop-k.rest.now c.count_tuples-size.result c.count_tuples-size.ensures here c.requires.whole

pub returns : goal.returns
returns c =
    let items = c.as_slice-families.ensures ∙ c.choices.ensures in
    let l = ap length items in
    let h = c.requires.declared in
    let there = choice_there c.args.schema.now c.as_slice-families.result.now items c.args.x c.index-families-x.result (omega (arith, l, h)) c.index-families-x.is in
    let k = c.loop-k.auto.k-end in
    let ended = c.loop-k-test.false in
    let at : c.loop-k.k ≡ c.args.x = omega (arith, k, ended) in
    let here = c.loop-k.invariant ∙ ap (λ x. drop (offset (world_of c.args.schema.now c.args.inst.now) x) c.args.values.now) at in
    let family = family_is c.args.schema.now c.args.inst.now c.args.x c.index-families-x.result there in
    c.split_at-own.ensures.front
    ∙ ap (λ n. take n c.loop-k.rest.now) (c.count_tuples-size.ensures ∙ ap (λ (f : Family). count_of (sizes_in c.args.inst.now f)) (sym family))
    ∙ ap (λ (vs : List ℤ). take (count_of (sizes_in c.args.inst.now (family_at c.args.schema.now.choices c.args.x))) vs) here
