use Rattle.std.proofs.Common.{◌≡◌, drop, map}
use Rattle.kts_abs.specs.Cells.{value_of}
use Rattle.kts_abs.specs.Spaces.{split_cell}
use Rattle.kts_machine.proofs.RaisedCells.{shift}
use Rattle.kts_machine.proofs.raising.split_cell.Given as goal

abbrev pub invariant-loop-k : goal.invariant-loop-k
invariant-loop-k g l = split_cell (map value_of l.row.cells) ≡ shift l.k (split_cell (drop l.k (map value_of l.row.cells)))
