use Rattle.std.proofs.Common.{◌-◌, ◌+◌, ◌∙◌, ap, arith, length}
use Rattle.std.specs.List.{flat_map, range_with_len}
use Rattle.std.proofs.lemmas.Result.{err_from_is_err_and}
use Rattle.kts_base.proofs.Pieces.{goes_on, stops, ends}
use Rattle.kts_spec.specs.Texts.{choice_line}
use Rattle.kts_show.proofs.Sections.{choice_there, choice_over, section_fits, next_section, lines_here, lines_end}
use Rattle.kts_show.proofs.schedule.put_choices.Goals as goal

pub count_tuples-count-requires : goal.count_tuples-count-requires
count_tuples-count-requires g c =
    choice_over c.args.schema.now c.args.inst.now c.loop-family.family-index c.family-item.result
    (choice_there c.args.schema.now c.as_slice-family-items.result.now (c.as_slice-family-items.ensures ∙ c.choices.ensures) c.loop-family.family-index c.family-item.result c.loop-family-test.true c.family-item.is) c.requires.valid

pub returns-in_err-put_choice : goal.returns-in_err-put_choice
returns-in_err-put_choice g c =
    let p = err_from_is_err_and c.from_residual.result c.from_residual.ensures.1 in
    let schema = c.args.schema.now in
    let inst = c.args.inst.now in
    let values = c.args.values.now in
    let x = c.loop-family.family-index in
    let items = c.as_slice-family-items.ensures ∙ c.choices.ensures in
    let there = choice_there schema c.as_slice-family-items.result.now items x c.family-item.result c.loop-family-test.true c.family-item.is in
    let here = lines_here schema inst x c.family-item.result there values c.loop-family.rest.now c.count_tuples-count.result c.count_tuples-count.ensures c.loop-family.invariant.rest (let l = ap length items in let t = c.loop-family-test.true in omega (arith, l, t)) in
    rw p.1 (stops (flat_map (choice_line schema inst values) (range_with_len (x + 1) (length schema.choices - (x + 1)))) c.loop-family.invariant.written here (rw c.split_at-parts.ensures.front at c.in_err-put_choice.ensures))

pub loop-family-preserved : goal.loop-family-preserved
loop-family-preserved g c =
    let schema = c.args.schema.now in
    let inst = c.args.inst.now in
    let values = c.args.values.now in
    let x = c.loop-family.family-index in
    let items = c.as_slice-family-items.ensures ∙ c.choices.ensures in
    let there = choice_there schema c.as_slice-family-items.result.now items x c.family-item.result c.loop-family-test.true c.family-item.is in
    let here = lines_here schema inst x c.family-item.result there values c.loop-family.rest.now c.count_tuples-count.result c.count_tuples-count.ensures c.loop-family.invariant.rest (let l = ap length items in let t = c.loop-family-test.true in omega (arith, l, t)) in
    record {
      rest = c.split_at-parts.ensures.back ∙ next_section schema inst x c.family-item.result there values c.loop-family.rest.now c.count_tuples-count.result c.count_tuples-count.ensures c.loop-family.invariant.rest;
      written = goes_on (flat_map (choice_line schema inst values) (range_with_len (x + 1) (length schema.choices - (x + 1)))) c.loop-family.invariant.written here (rw c.split_at-parts.ensures.front at c.in_ok-put_choice.ensures);
    }

pub returns : goal.returns
returns g c =
    let l = ap length (c.as_slice-family-items.ensures ∙ c.choices.ensures) in
    let t = c.loop-family-test.false in
    ends c.loop-family.invariant.written (lines_end c.args.schema.now c.args.inst.now c.args.values.now c.loop-family.family-index (omega (arith, l, t)))

pub split_at-parts-requires : goal.split_at-parts-requires
split_at-parts-requires g c =
    let there = choice_there c.args.schema.now c.as_slice-family-items.result.now (c.as_slice-family-items.ensures ∙ c.choices.ensures) c.loop-family.family-index c.family-item.result c.loop-family-test.true c.family-item.is in
    section_fits c.args.schema.now c.args.inst.now c.loop-family.family-index c.family-item.result there c.args.values.now c.loop-family.rest.now c.count_tuples-count.result c.count_tuples-count.ensures c.loop-family.invariant.rest c.requires.whole

pub put_choice-requires : goal.put_choice-requires
put_choice-requires g c =
    let there = choice_there c.args.schema.now c.as_slice-family-items.result.now (c.as_slice-family-items.ensures ∙ c.choices.ensures) c.loop-family.family-index c.family-item.result c.loop-family-test.true c.family-item.is in
    record {
      over = choice_over c.args.schema.now c.args.inst.now c.loop-family.family-index c.family-item.result there c.requires.valid;
      whole = c.split_at-parts.ensures.front_len ∙ c.count_tuples-count.ensures;
    }
