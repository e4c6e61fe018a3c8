use Rattle.std.proofs.Common.{◌≡◌, ◌*◌, ◌^◌, ◌≤ℤ◌, pos, drop}
use Rattle.std.specs.Prelude.{neg_ℤ}
use Rattle.kts_check.specs.Measures.{total_from}
use Rattle.kts_check.proofs.measures.total.Given as goal

abbrev pub invariant-loop-kind : goal.invariant-loop-kind
invariant-loop-kind l = record {
  low_above : neg_ℤ (pos (l.kind-index * 2 ^ 63)) ≤ℤ l.low;
  low_below : l.low ≤ℤ pos (l.kind-index * 2 ^ 63);
  high_above : neg_ℤ (pos (l.kind-index * 2 ^ 63)) ≤ℤ l.high;
  high_below : l.high ≤ℤ pos (l.kind-index * 2 ^ 63);
  so_far : total_from (l.low, l.high) (drop l.kind-index l.kinds) ≡ total_from (pos 0, pos 0) l.kinds;
}
