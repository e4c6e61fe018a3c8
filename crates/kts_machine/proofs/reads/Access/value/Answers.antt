use Rattle.std.proofs.Common.{◌+◌, subst}
use Rattle.kts_machine.specs.Reading.{HasKindAt}
use Rattle.kts_machine.proofs.JoinedValues.{cell_read}
use Rattle.kts_machine.proofs.reads.Access.value.Goals as goal

pub returns-then-first-at : goal.returns-then-first-at
returns-then-first-at g c =
    let kind = subst (HasKindAt c.args.self.now.kind c.args.at) c.in-Cells.is c.requires.kind in
    rw c.in-Cells.is (cell_read c.args.self.now.kind c.in-Cells.row.now.cells (c.in-Cells.first + c.args.at) c.get-cell.result c.get-cell.ensures c.size-size.ensures.valid (kind.1 c.get-cell.result c.get-cell.ensures))
