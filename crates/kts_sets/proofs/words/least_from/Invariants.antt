use Rattle.std.proofs.Common.{◌≡◌, ◌≤◌, ◌<◌, ◌/◌, ◌*◌, ℕ, false}
use Rattle.kts_sets.specs.Bits.{has}
use Rattle.kts_sets.proofs.words.least_from.Given as goal

abbrev pub invariant-loop-k : goal.invariant-loop-k
invariant-loop-k l = record {
  after : l.m / 64 < l.k;
  none : (y : ℕ) → l.m ≤ y → y < l.k * 64 → has l.words y ≡ false;
}
