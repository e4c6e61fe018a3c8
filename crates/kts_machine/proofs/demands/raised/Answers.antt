use Rattle.std.proofs.Common.{sym, ◌∙◌, ap}
use Rattle.std.specs.Prelude.{option_map}
use Rattle.kts_abs.specs.Cells.{value_of}
use Rattle.kts_abs.proofs.Positions.{above_is}
use Rattle.kts_abs.proofs.Raises.{demands_are_met}
use Rattle.kts_machine.proofs.demands.raised.Goals as goal

pub returns-in-Some-clause-above : goal.returns-in-Some-clause-above
returns-in-Some-clause-above g c =
    let met = demands_are_met c.args.op (value_of c.args.bound.now) (value_of c.args.cell.now) c.requires.cell in
    let is = met.some (value_of c.in-Some.part) (sym c.part.ensures ∙ ap (option_map value_of) c.in-Some.is) in
    (above_is c.args.cell.now c.in-Some.part c.size.ensures.valid c.size-in-Some.ensures.valid).1 is.part
