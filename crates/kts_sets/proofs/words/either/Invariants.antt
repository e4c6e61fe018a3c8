use Rattle.std.proofs.Common.{◌≡◌, ℕ, ◌<◌, length, slice_index_or, bit_or}
use Rattle.kts_sets.proofs.words.either.Given as goal

abbrev pub invariant-loop-k : goal.invariant-loop-k
invariant-loop-k g l = record {
  long : length l.out ≡ g.row.W;
  done : (k : ℕ) → k < l.k → slice_index_or l.out k 0 ≡ bit_or (slice_index_or l.a k 0) (slice_index_or l.b k 0);
}
