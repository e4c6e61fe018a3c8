use Rattle.std.proofs.Common.{◌∙◌}
use Rattle.kts_machine.proofs.RaisedCells.{risen-part}
use Rattle.kts_machine.proofs.raising.raise.Goals as goal

pub returns : goal.returns
returns g c = c.rise.ensures.row ∙ risen-part c.args.row.now c.args.k c.args.part.now c.requires.part
