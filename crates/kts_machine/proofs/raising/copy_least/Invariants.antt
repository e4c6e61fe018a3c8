use Rattle.std.proofs.Common.{◌≡◌, length, take, map}
use Rattle.kts_abs.specs.Cells.{value_of}
use Rattle.kts_abs.specs.Spaces.{least_in}
use Rattle.kts_machine.proofs.raising.copy_least.Given as goal

abbrev pub invariant-loop-k : goal.invariant-loop-k
invariant-loop-k g l = record {
  long : length l.values.items ≡ length l.row.cells;
  copied : take l.k l.values.items ≡ map least_in (take l.k (map value_of l.row.cells));
}
