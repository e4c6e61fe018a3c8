use Rattle.std.proofs.Common.{refl, ◌+◌, ◌*◌, arith}
use Rattle.std.proofs.lemmas.Bool.{lt-ltb}
use Rattle.std.proofs.lemmas.Nat.Bits.{bit_at_ones}
use Rattle.kts_sets.proofs.Pointwise.{bit_at-low_ones}
use Rattle.kts_sets.proofs.words.word_below.Goals as goal

pub returns-then-n-low : goal.returns-then-n-low
returns-then-n-low c = λ j h. rw (bit_at_ones 64 j h, lt-ltb (c.args.k * 64 + j) c.args.n (omega arith)) refl

pub returns-then-n-low-2 : goal.returns-then-n-low-2
returns-then-n-low-2 c = λ j h. bit_at-low_ones (c.args.k * 64) c.args.n j (omega arith) (omega arith)
