use Rattle.std.proofs.Common.{◌<◌, sym, ◌∙◌, ap, rules, arith}
use Rattle.std.specs.Prelude.{slice_set}
use Rattle.kts_abs.specs.declared.cell.Cell.{Cell}
use Rattle.kts_base.specs.Limits.{most_instructions}
use Rattle.kts_code.specs.declared.instructions.Instr.TheVariants as i
use Rattle.kts_machine.specs.Steps.{acted}
use Rattle.kts_rows.specs.Rows.{RowOf}
use Rattle.kts_machine.proofs.ChoiceSteps.{IsPicked, split_place, split_number, choice_fits, mark_fits, sound_picked, picked_view}
use Rattle.kts_machine.proofs.machine.Machine.pick.Given.{Over}
use Rattle.kts_machine.proofs.machine.Machine.pick.Goals as goal

pub get-cell-requires : goal.get-cell-requires
get-cell-requires g c = split_place c.self.invariant c.if-not-self.false (sym c.split_cell.ensures ∙ c.in-Some.is)

pub push-requires : goal.push-requires
push-requires g c =
    choice_fits c.self.invariant c.if-not-self.false (sym c.split_cell.ensures ∙ c.in-Some.is) c.get-cell.ensures

pub mark-requires : goal.mark-requires
mark-requires g c =
    mark_fits c.self.invariant c.if-not-self.false (sym c.split_cell.ensures ∙ c.in-Some.is) c.get-cell.ensures

pub raise-requires : goal.raise-requires
raise-requires g c =
    let place = split_place c.self.invariant c.if-not-self.false (sym c.split_cell.ensures ∙ c.in-Some.is) in
    let part = c.least_alone.ensures in
    rw c.mark.ensures (
      search rules,
      (
        place,
        record {
          cell = c.get-cell.result;
          got = c.get-cell.ensures;
          cell_valid = part.cell_valid;
          part_valid = part.valid;
          above = part.above;
        },
      ),
    )

pub wake-requires-clause-within : goal.wake-requires-clause-within
wake-requires-clause-within g c = split_number c.self.invariant c.if-not-self.false (sym c.split_cell.ensures ∙ c.in-Some.is)

picked : (g : Over) (c : goal.After-self-in-Some-1 g) → IsPicked c.self.inside c.in-Some.k c.least_alone.result c.push.new.self c.raise.new.row c.wake.new.queue
picked g c =
    let part = c.least_alone.ensures in
    record {
      live = c.if-not-self.false;
      split = sym c.split_cell.ensures ∙ c.in-Some.is;
      at = record { cell = c.get-cell.result; got = c.get-cell.ensures; cell_valid = part.cell_valid; part_valid = part.valid; above = part.above };
      alone = part.value;
      made = c.push.ensures;
      raised = c.raise.ensures ∙ ap (λ (r : RowOf (Cell g.row.W)). record r { cells = slice_set r.cells c.in-Some.k c.least_alone.result }) c.mark.ensures;
      woke = c.wake.ensures;
    }

pub invariant_of-self-in-Some : goal.invariant_of-self-in-Some
invariant_of-self-in-Some g c =
    let place : c.self.inside.pc < most_instructions = rw (← c.self.view_is) at c.requires in
    sound_picked (picked g c) _ c.self.invariant (omega (arith, place))

pub returns-in-Some : goal.returns-in-Some
returns-in-Some g c =
    picked_view (picked g c) c.args.to ∙ ap (acted (i.Pick c.args.to)) c.self.view_is
