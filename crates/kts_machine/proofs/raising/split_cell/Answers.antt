use Rattle.std.proofs.Common.{◌∙◌, sym}
use Rattle.kts_machine.proofs.RaisedCells.{split-here, split-later}
use Rattle.kts_machine.proofs.raising.split_cell.Goals as goal

pub returns-then-is_wide : goal.returns-then-is_wide
returns-then-is_wide g c =
    sym (c.loop-k.invariant ∙ split-here c.args.row.now.cells c.loop-k.k c.get.result c.get.ensures (sym c.is_wide.ensures ∙ c.if-is_wide.true))

pub loop-k-preserved : goal.loop-k-preserved
loop-k-preserved g c =
    c.loop-k.invariant ∙ split-later c.args.row.now.cells c.loop-k.k c.get.result c.get.ensures (sym c.is_wide.ensures ∙ c.if-is_wide.false)
