use Rattle.std.proofs.Common.{◌≡◌, length, take}
use Rattle.kts_rows.proofs.trail.replace.Given as goal

abbrev pub invariant-loop-at : goal.invariant-loop-at
invariant-loop-at g l = record {
  long : length l.cells ≡ length l.by;
  replaced : take l.at l.cells ≡ take l.at l.by;
}
