use Rattle.std.proofs.Common.{◌≡◌, sym, ◌∙◌, ap, length, [], slice_index_or, max, arith}
use Rattle.kts_spec.specs.declared.schema.Schema.{Schema}
use Rattle.kts_machine.specs.MachineStates.{MachineState}
use Rattle.kts_machine.proofs.DataFacts.{item_read}
use Rattle.kts_machine.proofs.TakenTasks.{taken, task_begins}
use Rattle.kts_machine.proofs.machine.Machine.take.Goals as goal

pub offset_bounds-as_slice-definite : goal.offset_bounds-as_slice-definite
offset_bounds-as_slice-definite g c =
    let few = (taken c.self.inside c.self.invariant c.in-Some.ensures.below c.schema-schema.ensures c.at-task.ensures).few in
    let number = c.definite-definite.ensures in
    omega (arith, few, number)

pub bounds-as_slice-definite : goal.bounds-as_slice-definite
bounds-as_slice-definite g c =
    let declared = (taken c.self.inside c.self.invariant c.in-Some.ensures.below c.schema-schema.ensures c.at-task.ensures).declared in
    let list = ap length (c.as_slice.ensures ∙ c.tasks.ensures ∙ ap (λ (s : Schema). s.tasks) c.schema-schema.ensures) in
    let number = c.definite-definite.ensures in
    omega (arith, declared, list, number)

pub fill-requires : goal.fill-requires
fill-requires g c =
    let small = (taken c.self.inside c.self.invariant c.in-Some.ensures.below c.schema-schema.ensures c.at-task.ensures).small in
    rw c.tuple.ensures small

pub offset_bounds-as_slice-definite-in-Some : goal.offset_bounds-as_slice-definite-in-Some
offset_bounds-as_slice-definite-in-Some g c =
    let few = (taken c.self.inside c.self.invariant c.in-Some.ensures.below c.schema-schema.ensures c.at-task.ensures).few in
    let number = c.definite-definite.ensures in
    omega (arith, few, number)

pub bounds-as_slice-definite-in-Some : goal.bounds-as_slice-definite-in-Some
bounds-as_slice-definite-in-Some g c =
    let entered = (taken c.self.inside c.self.invariant c.in-Some.ensures.below c.schema-schema.ensures c.at-task.ensures).entered in
    let list = ap length (c.as_slice-in-Some.ensures ∙ c.entries.ensures) in
    let number = c.definite-definite.ensures in
    omega (arith, entered, list, number)

pub returns-in-Some-clause-done : goal.returns-in-Some-clause-done
returns-in-Some-clause-done g c =
    let tasks = c.self.inside.code.schema.tasks in
    let task = taken c.self.inside c.self.invariant c.in-Some.ensures.below c.schema-schema.ensures c.at-task.ensures in
    let number = c.definite-definite.ensures in
    let declared = task.declared in
    let prefix : c.as_slice-prefix.result.now ≡ slice_index_or tasks c.definite-definite.result [] =
    c.as_slice-prefix.ensures ∙ item_read c.as_slice.result.now tasks c.definite-definite.result c.index-as_slice-definite.result []
    (c.as_slice.ensures ∙ c.tasks.ensures ∙ ap (λ (s : Schema). s.tasks) c.schema-schema.ensures)
    (omega (arith, declared, number)) c.index-as_slice-definite.is in
    rw (← c.self.view_is, c.pop.ensures.rest, c.clear.ensures, c.fill.ensures, prefix, c.tuple.ensures, c.as_slice-in-Some.ensures, c.entries.ensures, number, c.max-self-inside.ensures)
    (ap (λ (m : MachineState). let r : MachineState = record m { longest = max c.self.inside.longest m.core.path } in r)
    (task_begins c.self.inside c.args.to c.in-Some.number c.at-task.result c.if-not-self.false (sym c.in-Some.ensures.value) task))
