use Rattle.std.proofs.Common.{◌<◌, sym, ◌∙◌, ap, arith}
use Rattle.std.specs.Prelude.{option_map}
use Rattle.kts_abs.specs.Cells.{value_of}
use Rattle.kts_base.specs.Limits.{most_instructions}
use Rattle.kts_machine.specs.Steps.{with_core}
use Rattle.kts_machine.specs.TaskQueues.{TaskQueue}
use Rattle.kts_machine.specs.View.{view_of}
use Rattle.kts_machine.proofs.RaisedSpaces.{demand_fails, demand_raises, sound_raised}
use Rattle.kts_machine.proofs.machine.Machine.demand.Goals as goal

pub invariant_of-self-in-Some : goal.invariant_of-self-in-Some
invariant_of-self-in-Some g c =
    let place : c.self.inside.pc < most_instructions = rw (← c.self.view_is) at c.requires.place in
    let valid = c.in-Some.ensures in
    sound_raised c.self.inside c.args.target.now.cell c.in-Some.part c.raise.new.row c.wake.new.queue _ c.self.invariant
    (record { cell = c.get-cell.result; got = c.get-cell.ensures; cell_valid = valid.cell_valid; part_valid = valid.valid; above = valid.above })
    c.raise.ensures (ap (λ (q : TaskQueue). q.count) c.wake.ensures) (omega (arith, place))

pub returns-in-Some : goal.returns-in-Some
returns-in-Some g c =
    rw (← c.self.view_is, c.raise.ensures, c.wake.ensures) (λ space there. sym (ap (with_core (view_of c.self.inside))
    (demand_raises c.self.inside c.args.op (value_of c.args.target.now.bound) space c.args.target.now.cell c.args.to c.get-cell.result there c.get-cell.ensures c.in-Some.part
    (sym c.meets.ensures ∙ c.if-meets.false) (sym c.raised.ensures.value ∙ ap (option_map value_of) c.in-Some.is))))

pub returns-in-None : goal.returns-in-None
returns-in-None g c =
    rw (← c.self.view_is) (λ space there. sym (ap (with_core (view_of c.self.inside))
    (demand_fails c.self.inside c.args.op (value_of c.args.target.now.bound) space c.args.target.now.cell c.args.to c.get-cell.result there c.get-cell.ensures
    (sym c.meets.ensures ∙ c.if-meets.false) (sym c.raised.ensures.value ∙ ap (option_map value_of) c.in-None.is))))
