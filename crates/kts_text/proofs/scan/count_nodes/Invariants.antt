use Rattle.std.proofs.Common.{◌≤◌}
use Rattle.kts_text.proofs.scan.count_nodes.Given as goal

abbrev pub invariant-loop-byte : goal.invariant-loop-byte
invariant-loop-byte l = l.count ≤ l.byte-index
