use Rattle.std.proofs.Common.{◌≡◌, length, take}
use Rattle.kts_rows.specs.Trails.{bottoms}
use Rattle.kts_rows.proofs.trail.refill.Given as goal

abbrev pub invariant-loop-at : goal.invariant-loop-at
invariant-loop-at g l = record {
  long : length l.slots.items ≡ length l.cells;
  filled : take l.at l.slots.items ≡ bottoms (take l.at l.cells);
}
