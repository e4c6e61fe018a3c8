use Rattle.std.proofs.Common.{◌∙◌, length, arith}
use Rattle.kts_spec.specs.declared.declarations.Family.{Family}
use Rattle.kts_data.specs.Drafts.{tuples_in}
use Rattle.kts_data.proofs.CountLemmas.{few_arguments, sum_few, sum_fits, sum_on}
use Rattle.kts_data.proofs.counts.cell_count.Goals as goal

pub overflow_add-count : goal.overflow_add-count
overflow_add-count c =
    let facts = c.schemas_keep.ensures c.args.schema.now in
    let items = c.as_slice-family-items.ensures ∙ c.choices.ensures in
    let here = rw items at c.loop-family-test.true in
    let short = few_arguments (length c.args.schema.now.indexes) c.args.schema.now.choices c.loop-family.family-index c.family-item.result
    facts.choices here (rw items at c.family-item.is) in
    let few = rw (c.as_slice.ensures ∙ c.args-in-loop-family.ensures) at c.tuple_count-count.ensures.few in
    let fits = sum_fits c.loop-family.count c.tuple_count-count.result c.loop-family.family-index (length c.family-item.result.args)
    c.loop-family.invariant.few few short (omega (arith, here, facts.few_choices)) in
    omega (arith, fits)

pub loop-family-preserved : goal.loop-family-preserved
loop-family-preserved c =
    let facts = c.schemas_keep.ensures c.args.schema.now in
    let items = c.as_slice-family-items.ensures ∙ c.choices.ensures in
    let args = c.as_slice.ensures ∙ c.args-in-loop-family.ensures in
    let here = rw items at c.loop-family-test.true in
    let is = rw items at c.family-item.is in
    let short = few_arguments (length c.args.schema.now.indexes) c.args.schema.now.choices c.loop-family.family-index c.family-item.result facts.choices here is in
    record {
      so_far = sum_on (λ (family : Family). tuples_in c.args.inst.now family.args) c.args.schema.now.choices c.loop-family.family-index
          c.family-item.result c.loop-family.count c.tuple_count-count.result _ here is (rw args at c.tuple_count-count.ensures.count)
          c.loop-family.invariant.so_far;
      few = sum_few c.loop-family.count c.tuple_count-count.result c.loop-family.family-index (length c.family-item.result.args)
          c.loop-family.invariant.few (rw args at c.tuple_count-count.ensures.few) short;
    }
