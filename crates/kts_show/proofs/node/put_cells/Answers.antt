use Rattle.std.proofs.Common.{◌≤◌, ◌+◌, ◌∙◌, ap, arith, drop, length, map}
use Rattle.std.proofs.lemmas.Result.{err_from_is_err_and}
use Rattle.kts_base.proofs.Pieces.{goes_on, stops, ends}
use Rattle.kts_abs.specs.Cells.{value_of}
use Rattle.kts_show.proofs.Sections.{choice_there, choice_over}
use Rattle.kts_show.proofs.CellSizes.{cell_small}
use Rattle.kts_show.proofs.NodeParts.{known_from, own_here, left_more, known_end}
use Rattle.kts_show.proofs.node.put_cells.Goals as goal

pub count_tuples-count-requires : goal.count_tuples-count-requires
count_tuples-count-requires g c =
    choice_over c.args.schema.now c.args.inst.now c.loop-family.family-index c.family-item.result
    (choice_there c.args.schema.now c.as_slice-family-items.result.now (c.as_slice-family-items.ensures ∙ c.choices.ensures) c.loop-family.family-index c.family-item.result c.loop-family-test.true c.family-item.is) c.requires.valid

pub split_at-parts-requires : goal.split_at-parts-requires
split_at-parts-requires g c =
    let schema = c.args.schema.now in
    let inst = c.args.inst.now in
    let x = c.loop-family.family-index in
    let family = c.family-item.result in
    let rest = c.loop-family.rest.now in
    let n = c.count_tuples-count.result in
    let there = choice_there schema c.as_slice-family-items.result.now (c.as_slice-family-items.ensures ∙ c.choices.ensures) x family c.loop-family-test.true c.family-item.is in
    let more = left_more schema inst x family there in
    let long = c.loop-family.invariant.long in
    let count = c.count_tuples-count.ensures in
    omega (arith, more, long, count)

pub put_own-requires : goal.put_own-requires
put_own-requires g c =
    let schema = c.args.schema.now in
    let inst = c.args.inst.now in
    let x = c.loop-family.family-index in
    let family = c.family-item.result in
    let rest = c.loop-family.rest.now in
    let n = c.count_tuples-count.result in
    let there = choice_there schema c.as_slice-family-items.result.now (c.as_slice-family-items.ensures ∙ c.choices.ensures) x family c.loop-family-test.true c.family-item.is in
    let w = c.requires.few_words in
    (cell_small g.row.W w, (w, (choice_over schema inst x family there c.requires.valid, c.split_at-parts.ensures.front_len ∙ c.count_tuples-count.ensures)))

pub returns-in_err-put_own : goal.returns-in_err-put_own
returns-in_err-put_own g c =
    let schema = c.args.schema.now in
    let inst = c.args.inst.now in
    let x = c.loop-family.family-index in
    let family = c.family-item.result in
    let rest = c.loop-family.rest.now in
    let n = c.count_tuples-count.result in
    let there = choice_there schema c.as_slice-family-items.result.now (c.as_slice-family-items.ensures ∙ c.choices.ensures) x family c.loop-family-test.true c.family-item.is in
    let p = err_from_is_err_and c.from_residual.result c.from_residual.ensures.1 in
    let more = left_more schema inst x family there in
    let long = c.loop-family.invariant.long in
    let count = c.count_tuples-count.ensures in
    let fits : n ≤ length rest = omega (arith, more, long, count) in
    let here = own_here schema inst x family there rest n count fits in
    rw p.1 (stops (known_from schema inst (x + 1) (map value_of (drop n rest))) c.loop-family.invariant.written here (rw c.split_at-parts.ensures.front at c.in_err-put_own.ensures))

pub loop-family-preserved : goal.loop-family-preserved
loop-family-preserved g c =
    let schema = c.args.schema.now in
    let inst = c.args.inst.now in
    let x = c.loop-family.family-index in
    let family = c.family-item.result in
    let rest = c.loop-family.rest.now in
    let n = c.count_tuples-count.result in
    let there = choice_there schema c.as_slice-family-items.result.now (c.as_slice-family-items.ensures ∙ c.choices.ensures) x family c.loop-family-test.true c.family-item.is in
    let more = left_more schema inst x family there in
    let long = c.loop-family.invariant.long in
    let count = c.count_tuples-count.ensures in
    let fits : n ≤ length rest = omega (arith, more, long, count) in
    let here = own_here schema inst x family there rest n count fits in
    let back = c.split_at-parts.ensures.back_len in
    record {
      long = omega (arith, more, long, count, back);
      written = rw (c.split_at-parts.ensures.back) (goes_on (known_from schema inst (x + 1) (map value_of (drop n rest))) c.loop-family.invariant.written here (rw c.split_at-parts.ensures.front at c.in_ok-put_own.ensures));
    }

pub returns : goal.returns
returns g c =
    let l = ap length (c.as_slice-family-items.ensures ∙ c.choices.ensures) in
    let t = c.loop-family-test.false in
    ends c.loop-family.invariant.written (known_end c.args.schema.now c.args.inst.now c.loop-family.family-index (map value_of c.loop-family.rest.now) (omega (arith, l, t)))
