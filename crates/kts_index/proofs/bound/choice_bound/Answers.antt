use Rattle.std.proofs.Common.{◌≡◌, ◌≤◌, ℕ, ◌+◌, ◌*◌, ◌<◌, List, length, take, sum_by, ap, sym, ◌∙◌, arith}
use Rattle.kts_base.specs.Limits.{most_cells}
use Rattle.kts_spec.specs.Places.{count_of}
use Rattle.kts_spec.specs.Schedules.{tuples}
use Rattle.kts_spec.specs.Schemas.{family_at}
use Rattle.kts_spec.proofs.Conditions.{schema_facts}
use Rattle.kts_index.specs.Pairs.{pairs}
use Rattle.kts_index.specs.TupleNumbers.{sizes_in}
use Rattle.kts_index.proofs.BoundSums.{of_choice, sum_more, sum_all, product_few}
use Rattle.kts_index.proofs.ValidData.{choice_is}
use Rattle.kts_index.proofs.bound.choice_bound.Goals as goal

pub rises_of-rises-requires-clause-kind : goal.rises_of-rises-requires-clause-kind
rises_of-rises-requires-clause-kind c =
    rw c.kind.ensures (choice_is c.args.schema.now c.args.inst.now c.requires.valid c.args.choice c.choice_at-family.result.now c.requires.declared c.choice_at-family.ensures).kind

pub count-number-end-requires : goal.count-number-end-requires
count-number-end-requires c =
    rw (c.as_slice-args.ensures, c.args-2.ensures)
    (choice_is c.args.schema.now c.args.inst.now c.requires.valid c.args.choice c.choice_at-family.result.now c.requires.declared c.choice_at-family.ensures).indexes

pub overflow_cast-choice : goal.overflow_cast-choice
overflow_cast-choice c = let few = (schema_facts c.args.schema.now).few_choices in let h = c.requires.declared in omega arith

pub paired_count-requires-clause-indexes : goal.paired_count-requires-clause-indexes
paired_count-requires-clause-indexes c =
    rw (c.as_slice-args.ensures, c.args-2.ensures)
    (choice_is c.args.schema.now c.args.inst.now c.requires.valid c.args.choice c.choice_at-family.result.now c.requires.declared c.choice_at-family.ensures).indexes

pub paired_count-requires-clause-few : goal.paired_count-requires-clause-few
paired_count-requires-clause-few c =
    rw (c.as_slice-args.ensures, c.args-2.ensures)
    (choice_is c.args.schema.now c.args.inst.now c.requires.valid c.args.choice c.choice_at-family.result.now c.requires.declared c.choice_at-family.ensures).few

pub overflow_add-bound : goal.overflow_add-bound
overflow_add-bound c =
    let p = product_few c.paired_count.result c.rises_of-rises.result c.paired_count.ensures.few c.rises_of-rises.ensures.few in
    let b = c.loop-number.invariant.few in
    let t = c.loop-number-test.true in
    let cells : c.count-number-end.result ≤ most_cells = rw (c.count-number-end.ensures, c.as_slice-args.ensures, c.args-2.ensures)
    (choice_is c.args.schema.now c.args.inst.now c.requires.valid c.args.choice c.choice_at-family.result.now c.requires.declared c.choice_at-family.ensures).cells in
    omega arith

pub loop-number-preserved : goal.loop-number-preserved
loop-number-preserved c =
    let xs = sizes_in c.args.inst.now c.as_slice-args.result.now in
    let k = c.loop-number.number in
    let f : List ℕ → ℕ = λ cell. length (pairs c.args.index.now c.args.schema.now c.args.inst.now c.args.choice cell) * c.rises_of-rises.result in
    let h : k < count_of xs = rw c.count-number-end.ensures at c.loop-number-test.true in
    let p = product_few c.paired_count.result c.rises_of-rises.result c.paired_count.ensures.few c.rises_of-rises.ensures.few in
    let b = c.loop-number.invariant.few in
    record {
      value = ap (λ b. b + c.paired_count.result * c.rises_of-rises.result) c.loop-number.invariant.value
          ∙ (ap (λ r. sum_by f (take k (tuples xs)) + r * c.rises_of-rises.result) c.paired_count.ensures.value ∙ sym (sum_more xs f k h));
      few = omega arith;
    }

pub returns-clause-value : goal.returns-clause-value
returns-clause-value c =
    let xs = sizes_in c.args.inst.now c.as_slice-args.result.now in
    let f : List ℕ → ℕ = λ cell. length (pairs c.args.index.now c.args.schema.now c.args.inst.now c.args.choice cell) * c.rises_of-rises.result in
    let e : c.loop-number.number ≡ count_of xs = let t = c.loop-number-test.false in let u = c.loop-number.auto.number-end in omega (arith, c.count-number-end.ensures) in
    c.loop-number.invariant.value
    ∙ (ap (λ n. sum_by f (take n (tuples xs))) e ∙ (sum_all xs f
    ∙ rw (c.rises_of-rises.ensures.value, c.kind.ensures, c.as_slice-args.ensures, c.args-2.ensures, c.choice_at-family.ensures) (of_choice c.args.index.now c.args.schema.now c.args.inst.now c.args.choice (family_at c.args.schema.now.choices c.args.choice))))

pub returns-clause-few : goal.returns-clause-few
returns-clause-few c =
    let b = c.loop-number.invariant.few in
    let u = c.loop-number.auto.number-end in
    let cells : c.count-number-end.result ≤ most_cells = rw (c.count-number-end.ensures, c.as_slice-args.ensures, c.args-2.ensures)
    (choice_is c.args.schema.now c.args.inst.now c.requires.valid c.args.choice c.choice_at-family.result.now c.requires.declared c.choice_at-family.ensures).cells in
    omega arith
