use Rattle.std.proofs.Common.{length, ◌≡◌, ◌<◌, ◌≤◌, drop, []}
use Rattle.std.specs.List.{AllByRecursion}
use Rattle.kts_text.specs.Ends.{filled}
use Rattle.kts_text.specs.Scan.{scan}
use Rattle.kts_text.specs.declared.scan.Mode.TheVariants.{Outside}
use Rattle.kts_text.proofs.scan.read_nodes.Given as goal

abbrev pub invariant-loop-at : goal.invariant-loop-at
invariant-loop-at l = record {
  few : length l.nodes ≤ l.at;
  within : AllByRecursion (λ k. k < length l.nodes) l.opened;
  same : filled l.nodes l.opened (scan l.mode (length l.opened) l.at (drop l.at l.bytes)) ≡ filled [] [] (scan (Outside 0) 0 0 l.bytes);
}
