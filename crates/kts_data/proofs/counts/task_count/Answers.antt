use Rattle.std.proofs.Common.{◌∙◌, length, arith}
use Rattle.kts_data.specs.Drafts.{tuples_in}
use Rattle.kts_data.proofs.CountLemmas.{few_variables, sum_few, sum_fits, sum_on}
use Rattle.kts_data.proofs.counts.task_count.Goals as goal

pub overflow_add-count : goal.overflow_add-count
overflow_add-count c =
    let facts = c.schemas_keep.ensures c.args.schema.now in
    let items = c.as_slice-prefix-items.ensures ∙ c.tasks.ensures in
    let here = rw items at c.loop-prefix-test.true in
    let short = few_variables (length c.args.schema.now.indexes) c.args.schema.now.tasks c.loop-prefix.prefix-index c.prefix-item.result
    facts.prefixes here (rw items at c.prefix-item.is) in
    let few = rw (c.as_slice.ensures) at c.tuple_count-count.ensures.few in
    let fits = sum_fits c.loop-prefix.count c.tuple_count-count.result c.loop-prefix.prefix-index (length c.prefix-item.result)
    c.loop-prefix.invariant.few few short (omega (arith, here, facts.few_tasks)) in
    omega (arith, fits)

pub loop-prefix-preserved : goal.loop-prefix-preserved
loop-prefix-preserved c =
    let facts = c.schemas_keep.ensures c.args.schema.now in
    let items = c.as_slice-prefix-items.ensures ∙ c.tasks.ensures in
    let args = c.as_slice.ensures in
    let here = rw items at c.loop-prefix-test.true in
    let is = rw items at c.prefix-item.is in
    let short = few_variables (length c.args.schema.now.indexes) c.args.schema.now.tasks c.loop-prefix.prefix-index c.prefix-item.result facts.prefixes here is in
    record {
      so_far = sum_on (tuples_in c.args.inst.now) c.args.schema.now.tasks c.loop-prefix.prefix-index c.prefix-item.result c.loop-prefix.count
          c.tuple_count-count.result _ here is (rw args at c.tuple_count-count.ensures.count) c.loop-prefix.invariant.so_far;
      few = sum_few c.loop-prefix.count c.tuple_count-count.result c.loop-prefix.prefix-index (length c.prefix-item.result)
          c.loop-prefix.invariant.few (rw args at c.tuple_count-count.ensures.few) short;
    }
