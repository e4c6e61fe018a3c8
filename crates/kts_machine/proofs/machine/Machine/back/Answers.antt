use Rattle.std.proofs.Common.{◌<◌, ◌∙◌, ap, rules, arith}
use Rattle.kts_base.specs.Limits.{most_instructions}
use Rattle.kts_code.specs.declared.instructions.Instr.TheVariants as i
use Rattle.kts_machine.specs.Steps.{acted}
use Rattle.kts_code.specs.Queues.{woken}
use Rattle.kts_machine.specs.TaskQueues.{TaskQueue}
use Rattle.kts_machine.specs.View.{setup_in}
use Rattle.kts_machine.proofs.ChoiceSteps.{IsUndone, undone_place, undone_number, undone_wide, sound_undone, undone_view}
use Rattle.kts_machine.proofs.machine.Machine.back.Given.{Over}
use Rattle.kts_machine.proofs.machine.Machine.back.Goals as goal

pub get-cell-requires : goal.get-cell-requires
get-cell-requires g c = undone_place c.self.invariant c.in-Some.split c.pop.new.self c.in-Some.ensures.some c.back.new.self c.back.ensures.latest

pub least_dropped-requires : goal.least_dropped-requires
least_dropped-requires g c =
    (search rules, undone_wide c.self.invariant c.in-Some.split c.pop.new.self c.in-Some.ensures.some c.back.new.self c.back.ensures.latest c.get-cell.ensures)

pub raise-requires : goal.raise-requires
raise-requires g c =
    let place = undone_place c.self.invariant c.in-Some.split c.pop.new.self c.in-Some.ensures.some c.back.new.self c.back.ensures.latest in
    let part = c.least_dropped.ensures in (
      search rules,
      (
        place,
        record {
          cell = c.get-cell.result;
          got = c.get-cell.ensures;
          cell_valid = part.cell_valid;
          part_valid = part.valid;
          above = part.above;
        },
      ),
    )

pub wake-requires-clause-within : goal.wake-requires-clause-within
wake-requires-clause-within g c =
    undone_number c.self.invariant c.in-Some.split c.pop.new.self c.in-Some.ensures.some c.back.new.self c.back.ensures.latest c.back.ensures.len

undone : (g : Over) (c : goal.After-self-in-Some-3-1 g)
    → IsUndone c.self.inside c.in-Some.split c.back.new.self c.least_dropped.result c.pop.new.self c.raise.new.row c.wake.new.queue
undone g c =
    let part = c.least_dropped.ensures in
    record {
      popped = c.in-Some.ensures.some;
      marks = c.back.ensures.latest;
      opened = c.back.ensures.opened;
      depth = c.back.ensures.depth;
      long = c.back.ensures.len;
      at = record { cell = c.get-cell.result; got = c.get-cell.ensures; cell_valid = part.cell_valid; part_valid = part.valid; above = part.above };
      dropped = part.value;
      raised = c.raise.ensures;
      woke = c.wake.ensures ∙ ap (λ (q : TaskQueue). record q { waiting = woken (setup_in c.self.inside) c.in-Some.split.cell q.waiting }) c.clear.ensures;
    }

pub invariant_of-self-in-Some : goal.invariant_of-self-in-Some
invariant_of-self-in-Some g c =
    let place : c.self.inside.pc < most_instructions = rw (← c.self.view_is) at c.requires in
    sound_undone (undone g c) _ c.self.invariant (omega (arith, place))

pub returns-in-Some : goal.returns-in-Some
returns-in-Some g c =
    undone_view (undone g c) c.args.to ∙ ap (acted (i.Back c.args.to)) c.self.view_is
