use Rattle.std.proofs.Common.{◌∙◌, ◌+◌, refl, arith}
use Rattle.kts_spec.specs.Worlds.{world_of}
use Rattle.kts_index.proofs.TaskNumbers.{counts}
use Rattle.kts_index.proofs.ValidData.{prefix_indexes, tasks_few}
use Rattle.kts_index.proofs.tuples.Tuples.of_constraint.Goals as goal

pub count-count-requires : goal.count-count-requires
count-count-requires c = rw c.prefix_of-prefix.ensures (prefix_indexes c.args.schema.now c.args.inst.now c.requires.valid c.args.definite c.requires.declared)

pub invariant_of-result : goal.invariant_of-result
invariant_of-result c =
    let next = counts (world_of c.args.schema.now c.args.inst.now) c.args.schema.now.tasks c.args.definite c.requires.declared in
    let few = tasks_few c.args.schema.now c.args.inst.now c.requires.valid (c.args.definite + 1) in
    record {
      indexes = rw c.prefix_of-prefix.ensures (prefix_indexes c.args.schema.now c.args.inst.now c.requires.valid c.args.definite c.requires.declared);
      counted = c.count-count.ensures;
      few = rw (c.count-count.ensures, c.prefix_of-prefix.ensures) (omega (arith, next, few));
    }

pub returns-clause-next : goal.returns-clause-next
returns-clause-next c =
    counts (world_of c.args.schema.now c.args.inst.now) c.args.schema.now.tasks c.args.definite c.requires.declared
    ∙ rw (c.count-count.ensures, c.prefix_of-prefix.ensures) refl

pub returns-clause-few : goal.returns-clause-few
returns-clause-few c = tasks_few c.args.schema.now c.args.inst.now c.requires.valid (c.args.definite + 1)
