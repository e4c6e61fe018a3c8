use Rattle.std.proofs.Common.{◌≡◌, ◌+◌, drop}
use Rattle.std.specs.Prelude.{nat_lt}
use Rattle.std.specs.List.{prefix_len}
use Rattle.kts_read.proofs.sizes.placed_count.Given as goal

abbrev pub invariant-loop-k : goal.invariant-loop-k
invariant-loop-k l = l.k + prefix_len (λ to. nat_lt to l.size) (drop l.k l.entries) ≡ prefix_len (λ to. nat_lt to l.size) l.entries
