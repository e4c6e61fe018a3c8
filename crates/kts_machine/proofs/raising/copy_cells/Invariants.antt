use Rattle.std.proofs.Common.{◌≡◌, length, take}
use Rattle.kts_machine.proofs.raising.copy_cells.Given as goal

abbrev pub invariant-loop-k : goal.invariant-loop-k
invariant-loop-k g l = record {
  long : length l.space.cells ≡ length l.row.cells;
  copied : take l.k l.space.cells ≡ take l.k l.row.cells;
}
