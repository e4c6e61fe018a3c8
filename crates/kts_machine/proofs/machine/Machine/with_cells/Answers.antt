use Rattle.std.proofs.Common.{refl, sym, ◌∙◌, subst, length, arith}
use Rattle.kts_machine.specs.KeptReaders.{AreReaders}
use Rattle.kts_machine.specs.Plans.{ArePlans}
use Rattle.kts_machine.proofs.OpenedMachines.{room_for_marks}
use Rattle.kts_machine.proofs.machine.Machine.with_cells.Goals as goal

pub open-requires-3 : goal.open-requires-3
open-requires-3 g c =
    room_for_marks c.args.code.now.schema c.args.inst.now (length c.args.cells) c.len-count.result c.requires.valid c.requires.cells c.len-count.ensures

pub invariant_of-result : goal.invariant_of-result
invariant_of-result g c =
    let one = c.requires.one_word in
    let few = c.requires.few_words in
    rw (c.in_ok-copy.ensures, c.in_ok-copy-2.ensures, c.in_ok-row.ensures, c.in_ok-choices.ensures, c.in_ok-queue.ensures)
    (rw (c.in_ok-stack.ensures, c.new-2.ensures, c.new-shown.ensures, c.in_ok-from_slice.ensures, c.as_slice.ensures) (record {
      fits = record {
        valid = c.requires.valid;
        one_word = one;
        few_words = few;
        offsets_are = rw c.schema.ensures at c.of-offsets.ensures;
      };
      cells = record {
        cells = c.requires.cells;
        marks = c.len-count.ensures ∙ c.requires.cells;
        choices_fit = c.len-count.ensures ∙ c.requires.cells;
        values_fit = c.in_ok-values.ensures ∙ c.len-count.ensures ∙ c.requires.cells;
        shown_fit = c.requires.cells;
      };
      ops = c.in_ok-ops.ensures;
      readers = subst (AreReaders c.args.code.now c.args.inst.now) (sym c.readers.view_is) c.in_ok-readers.ensures;
      plans = subst (ArePlans c.args.code.now c.args.inst.now) (sym c.plans.view_is) c.in_ok-plans.ensures;
      tasks = rw c.schema-2.ensures at c.task_count-tasks.ensures.value;
      stack_room = c.stack.ensures;
      registers_all = refl;
      searched = record {
        marked = refl;
        origin = c.requires.origin;
        space = refl;
        made = tt;
      };
      place = omega arith;
      counts = record {
        now = omega arith;
        paths = λ i d h. absurd (omega (arith, h));
      };
    }))
