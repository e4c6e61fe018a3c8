use Rattle.std.proofs.Common.{◌≡◌, ◌∙◌, ◌<◌, ◌≤◌, ap, sym, subst, length, List, ℕ, slice_index_or, []}
use Rattle.kts_base.specs.Limits.{most_prefix}
use Rattle.kts_spec.specs.Places.{count_of}
use Rattle.kts_spec.specs.Worlds.{world_of}
use Rattle.kts_index.specs.TaskOrder.{Task, task_at}
use Rattle.kts_index.specs.TupleNumbers.{sizes_in, tuple_at, AreIndexes}
use Rattle.kts_index.proofs.TaskNumbers.{task_at-place}
use Rattle.kts_index.proofs.ValidData.{prefix_indexes}
use Rattle.kts_index.proofs.task.Task.at.Goals as goal

pub members_of-requires-clause-indexes : goal.members_of-requires-clause-indexes
members_of-requires-clause-indexes c =
    subst (AreIndexes c.args.inst.now) (sym c.prefix_of-prefix.ensures) (prefix_indexes c.args.schema.now c.args.inst.now c.requires.valid c.place_of-definite.result.0 c.place_of-definite.ensures.declared)

pub invariant_of-result : goal.invariant_of-result
invariant_of-result c =
    subst (λ (l : List ℕ). length l ≤ most_prefix) (sym c.prefix_of-prefix.ensures) (prefix_indexes c.args.schema.now c.args.inst.now c.requires.valid c.place_of-definite.result.0 c.place_of-definite.ensures.declared).few

pub returns : goal.returns
returns c =
    let w = world_of c.args.schema.now c.args.inst.now in
    let d = c.place_of-definite.result.0 in
    let p = c.place_of-definite.result.1 in
    ap (λ (tuple : List ℕ). let t : Task = record { definite = d; tuple = tuple } in t)
    (c.members_of.ensures ∙ ap (λ (l : List ℕ). tuple_at (sizes_in c.args.inst.now l) p) c.prefix_of-prefix.ensures)
    ∙ sym (task_at-place w c.args.schema.now.tasks d p c.place_of-definite.ensures.declared c.place_of-definite.ensures.at)
    ∙ ap (task_at w c.args.schema.now.tasks) c.place_of-definite.ensures.number
