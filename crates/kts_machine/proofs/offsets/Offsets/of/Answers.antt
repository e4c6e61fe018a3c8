use Rattle.std.proofs.Common.{arith, ◌≡◌, sym, ◌∙◌, ap, subst, ◌+◌, ◌<◌, length, map, take, Some, slice_get}
use Rattle.std.proofs.lemmas.List.{length-set}
use Rattle.kts_spec.specs.Places.{count_of, cell_count}
use Rattle.kts_spec.specs.Worlds.{world_of, size_of}
use Rattle.kts_spec.proofs.Conditions.{schema_facts, instance_facts}
use Rattle.kts_spec.proofs.TypedAccesses.{few_members}
use Rattle.kts_mean.specs.Bounds.{AllIn}
use Rattle.kts_mean.proofs.FamilyFacts.{FamilyFacts, found_family, item_there, cells_next, cells_within, offset_more}
use Rattle.kts_machine.proofs.offsets.Offsets.of.Goals as goal

pub bounds-first-x : goal.bounds-first-x
bounds-first-x c =
    let few = (schema_facts c.args.schema.now).few_choices in
    let here = c.loop-x-test.true in
    let same = ap length (c.as_slice-families.ensures ∙ c.choices.ensures) in
    omega (arith, few, here, same)

module _ (c : goal.After-as_slice) where
  there : slice_get c.args.schema.now.choices c.loop-x.x ≡ Some c.index-families-x.result
  there =
      subst (λ families. slice_get families c.loop-x.x ≡ Some c.index-families-x.result) (c.as_slice-families.ensures ∙ c.choices.ensures)
      (item_there c.as_slice-families.result.now c.loop-x.x c.index-families-x.result c.loop-x-test.true c.index-families-x.is)

  facts : FamilyFacts (length c.args.schema.now.indexes) c.index-families-x.result
  facts = found_family (length c.args.schema.now.indexes) c.args.schema.now.choices c.loop-x.x c.index-families-x.result (schema_facts c.args.schema.now).choices there

  args_are : c.as_slice.result.now ≡ c.index-families-x.result.args
  args_are = c.as_slice.ensures ∙ c.args-in-loop-x.ensures

pub count_tuples-next-requires-clause-declared : goal.count_tuples-next-requires-clause-declared
count_tuples-next-requires-clause-declared c =
    let kept = instance_facts c.args.schema.now c.args.inst.now c.requires in
    subst (AllIn (length c.args.inst.now.members)) (sym (args_are c)) (subst (λ n. AllIn n c.index-families-x.result.args) (sym kept.indexes) (facts c).declared)

pub count_tuples-next-requires-clause-few : goal.count_tuples-next-requires-clause-few
count_tuples-next-requires-clause-few c = let few = (facts c).few in let same = ap length (args_are c) in omega (arith, few, same)

pub count_tuples-next-requires-clause-sizes : goal.count_tuples-next-requires-clause-sizes
count_tuples-next-requires-clause-sizes c i = few_members c.args.inst.now.members i (instance_facts c.args.schema.now c.args.inst.now c.requires).members

module _ (c : goal.After-count_tuples-next) where
  more : c.loop-x.next + c.count_tuples-next.result ≡ cell_count (world_of c.args.schema.now c.args.inst.now) (take (c.loop-x.x + 1) c.args.schema.now.choices)
  more =
      let w = world_of c.args.schema.now c.args.inst.now in
      let there : slice_get c.args.schema.now.choices c.loop-x.x ≡ Some c.index-families-x.result =
      subst (λ families. slice_get families c.loop-x.x ≡ Some c.index-families-x.result) (c.as_slice-families.ensures ∙ c.choices.ensures)
      (item_there c.as_slice-families.result.now c.loop-x.x c.index-families-x.result c.loop-x-test.true c.index-families-x.is) in
      let next = cells_next w c.args.schema.now.choices c.loop-x.x c.index-families-x.result there in
      let before = c.loop-x.invariant.next in
      let count = c.count_tuples-next.ensures ∙ ap (λ indexes. count_of (map (size_of w) indexes)) (c.as_slice.ensures ∙ c.args-in-loop-x.ensures) in
      rw (before, count) (sym next)

  room : c.loop-x.x < length c.loop-x.first
  room =
      let few = (schema_facts c.args.schema.now).few_choices in
      let here = c.loop-x-test.true in
      let same = ap length (c.as_slice-families.ensures ∙ c.choices.ensures) in
      let long = c.loop-x.invariant.long in
      omega (arith, few, here, same, long)

pub overflow_add-next : goal.overflow_add-next
overflow_add-next c =
    let w = world_of c.args.schema.now c.args.inst.now in
    let all = cells_within w c.args.schema.now.choices (c.loop-x.x + 1) in
    let few = (instance_facts c.args.schema.now c.args.inst.now c.requires).few_cells in
    let sum = more c in
    omega (arith, all, few, sum)

pub loop-x-preserved : goal.loop-x-preserved
loop-x-preserved c =
    let w = world_of c.args.schema.now c.args.inst.now in
    record {
      long = length-set c.loop-x.first c.loop-x.x c.loop-x.next ∙ c.loop-x.invariant.long;
      next = more c;
      known = rw c.loop-x.invariant.next (offset_more w c.args.schema.now.choices c.loop-x.first c.loop-x.x (room c) c.loop-x.invariant.known);
    }
