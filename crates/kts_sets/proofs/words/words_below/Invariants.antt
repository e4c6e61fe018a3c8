use Rattle.std.proofs.Common.{◌≡◌, ℕ, ◌+◌, ◌*◌, ◌<◌, length, slice_index_or, nat_eq, nat_lt}
use Rattle.std.specs.Int.{bit_at}
use Rattle.kts_sets.proofs.words.words_below.Given as goal

abbrev pub invariant-loop-k : goal.invariant-loop-k
invariant-loop-k g l = record {
  long : length l.out ≡ g.row.W;
  done : (k : ℕ) → k < l.k → (j : ℕ) → j < 64 → nat_eq (bit_at (slice_index_or l.out k 0) j) 1 ≡ nat_lt (k * 64 + j) l.n;
}
