use Rattle.std.proofs.Common.{◌≡◌, refl, sym, ◌∙◌, ap, subst, ℕ, ◌<◌, ◌^◌, length, arith}
use Rattle.kts_abs.specs.declared.space.Space.{Space}
use Rattle.kts_base.specs.Limits.{most_instructions}
use Rattle.kts_base.proofs.Pieces.{appends_nothing}
use Rattle.kts_machine.specs.declared.machine.Machine.TheInside.{Inside as Fields}
use Rattle.kts_machine.specs.View.{MachineInvariant}
use Rattle.kts_machine.proofs.machine.Machine.node.Goals as goal
use Rattle.kts_machine.proofs.machine.Machine.node.Goals.{then-traced+in_ok-put_node, else-traced}

pub returns-clause-wrote : goal.returns-clause-wrote
returns-clause-wrote g c before =
    elim c.if-traced.branch [
      | then-traced+in_ok-put_node w ↦ rw (w.out-is, ← c.self.view_is, c.if-not-self.false, w.if-traced.true)
          (rw (w.schema.ensures, w.copy_cells.ensures) at w.in_ok-put_node.ensures)
      | else-traced w ↦ rw (w.out-is, ← c.self.view_is, c.if-not-self.false, w.if-traced.false) (record { appended = appends_nothing _; calm = refl })
    ]

-- the machine after it has shown its space
sound_shown : {W : ℕ} (m after : Fields W) (shown : Space W) (pc : ℕ) → after ≡ record m { shown = shown } → MachineInvariant m
    → length shown.cells ≡ length m.shown.cells → pc < 2 ^ 32 → MachineInvariant (record after { pc = pc })
sound_shown {W} m after shown pc e inv long place = subst (λ (a : Fields W). MachineInvariant (record a { pc = pc })) (sym e) (record {
  fits = inv.fits;
  cells = record {
    cells = inv.cells.cells;
    marks = inv.cells.marks;
    choices_fit = inv.cells.choices_fit;
    values_fit = inv.cells.values_fit;
    shown_fit = long ∙ inv.cells.shown_fit;
  };
  ops = inv.ops;
  readers = inv.readers;
  plans = inv.plans;
  tasks = inv.tasks;
  stack_room = inv.stack_room;
  registers_all = inv.registers_all;
  searched = inv.searched;
  place = place;
  counts = inv.counts;
})

pub invariant_of-self-2 : goal.invariant_of-self-2
invariant_of-self-2 g c =
    let inv = c.self.invariant in
    let place : c.self.inside.pc < most_instructions = rw (← c.self.view_is) at c.requires in
    elim c.if-traced.branch [
      | then-traced+in_ok-put_node w ↦
          let same : c.if-traced.self-inside.pc ≡ c.self.inside.pc = ap (λ (m : Fields g.row.W). m.pc) w.self-inside-is in
          sound_shown c.self.inside c.if-traced.self-inside w.copy_cells.new.space _ w.self-inside-is inv
          (ap length w.copy_cells.ensures ∙ inv.cells.cells ∙ sym inv.cells.shown_fit) (omega (arith, place, same))
      | else-traced w ↦
          let same : c.if-traced.self-inside.pc ≡ c.self.inside.pc = ap (λ (m : Fields g.row.W). m.pc) w.self-inside-is in
          sound_shown c.self.inside c.if-traced.self-inside c.self.inside.shown _ w.self-inside-is inv refl (omega (arith, place, same))
    ]
