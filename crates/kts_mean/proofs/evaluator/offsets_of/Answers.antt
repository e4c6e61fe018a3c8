use Rattle.std.proofs.Common.{arith, ◌≡◌, sym, ◌∙◌, ap, subst, ◌+◌, ◌<◌, length, map, take, Some, slice_get}
use Rattle.std.proofs.lemmas.List.{length-set}
use Rattle.kts_spec.specs.Places.{count_of, cell_count}
use Rattle.kts_spec.specs.Worlds.{world_of, size_of}
use Rattle.kts_spec.proofs.Conditions.{schema_facts, instance_facts}
use Rattle.kts_spec.proofs.TypedAccesses.{few_members}
use Rattle.kts_mean.specs.Bounds.{AllIn}
use Rattle.kts_mean.proofs.FamilyFacts.{FamilyFacts, found_family, item_there, cells_next, cells_within, offset_more}
use Rattle.kts_mean.proofs.evaluator.offsets_of.Goals as goal

pub bounds-offsets-at : goal.bounds-offsets-at
bounds-offsets-at c =
    let few = (schema_facts c.args.schema.now).few_choices in
    let here = c.loop-at-test.true in
    let same = ap length (c.as_slice-families.ensures ∙ c.choices.ensures) in
    omega (arith, few, here, same)

module _ (c : goal.After-as_slice) where
  there : slice_get c.args.schema.now.choices c.loop-at.at ≡ Some c.index-families-at.result
  there =
      subst (λ families. slice_get families c.loop-at.at ≡ Some c.index-families-at.result) (c.as_slice-families.ensures ∙ c.choices.ensures)
      (item_there c.as_slice-families.result.now c.loop-at.at c.index-families-at.result c.loop-at-test.true c.index-families-at.is)

  facts : FamilyFacts (length c.args.schema.now.indexes) c.index-families-at.result
  facts = found_family (length c.args.schema.now.indexes) c.args.schema.now.choices c.loop-at.at c.index-families-at.result (schema_facts c.args.schema.now).choices there

  args_are : c.as_slice.result.now ≡ c.index-families-at.result.args
  args_are = c.as_slice.ensures ∙ c.args-in-loop-at.ensures

pub count_tuples-next-requires-clause-declared : goal.count_tuples-next-requires-clause-declared
count_tuples-next-requires-clause-declared c =
    let kept = instance_facts c.args.schema.now c.args.inst.now c.requires in
    subst (AllIn (length c.args.inst.now.members)) (sym (args_are c)) (subst (λ n. AllIn n c.index-families-at.result.args) (sym kept.indexes) (facts c).declared)

pub count_tuples-next-requires-clause-few : goal.count_tuples-next-requires-clause-few
count_tuples-next-requires-clause-few c = let few = (facts c).few in let same = ap length (args_are c) in omega (arith, few, same)

pub count_tuples-next-requires-clause-sizes : goal.count_tuples-next-requires-clause-sizes
count_tuples-next-requires-clause-sizes c i = few_members c.args.inst.now.members i (instance_facts c.args.schema.now c.args.inst.now c.requires).members

module _ (c : goal.After-count_tuples-next) where
  more : c.loop-at.next + c.count_tuples-next.result ≡ cell_count (world_of c.args.schema.now c.args.inst.now) (take (c.loop-at.at + 1) c.args.schema.now.choices)
  more =
      let w = world_of c.args.schema.now c.args.inst.now in
      let there : slice_get c.args.schema.now.choices c.loop-at.at ≡ Some c.index-families-at.result =
      subst (λ families. slice_get families c.loop-at.at ≡ Some c.index-families-at.result) (c.as_slice-families.ensures ∙ c.choices.ensures)
      (item_there c.as_slice-families.result.now c.loop-at.at c.index-families-at.result c.loop-at-test.true c.index-families-at.is) in
      let next = cells_next w c.args.schema.now.choices c.loop-at.at c.index-families-at.result there in
      let before = c.loop-at.invariant.next in
      let count = c.count_tuples-next.ensures ∙ ap (λ indexes. count_of (map (size_of w) indexes)) (c.as_slice.ensures ∙ c.args-in-loop-at.ensures) in
      rw (before, count) (sym next)

  room : c.loop-at.at < length c.loop-at.offsets
  room =
      let few = (schema_facts c.args.schema.now).few_choices in
      let here = c.loop-at-test.true in
      let same = ap length (c.as_slice-families.ensures ∙ c.choices.ensures) in
      let long = c.loop-at.invariant.long in
      omega (arith, few, here, same, long)

pub overflow_add-next : goal.overflow_add-next
overflow_add-next c =
    let w = world_of c.args.schema.now c.args.inst.now in
    let all = cells_within w c.args.schema.now.choices (c.loop-at.at + 1) in
    let few = (instance_facts c.args.schema.now c.args.inst.now c.requires).few_cells in
    let sum = more c in
    omega (arith, all, few, sum)

pub loop-at-preserved : goal.loop-at-preserved
loop-at-preserved c =
    let w = world_of c.args.schema.now c.args.inst.now in
    record {
      long = length-set c.loop-at.offsets c.loop-at.at c.loop-at.next ∙ c.loop-at.invariant.long;
      next = more c;
      known = rw c.loop-at.invariant.next (offset_more w c.args.schema.now.choices c.loop-at.offsets c.loop-at.at (room c) c.loop-at.invariant.known);
    }
