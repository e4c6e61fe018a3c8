use Rattle.std.proofs.Common.{arith, w64}
use Rattle.std.proofs.lemmas.Nat.Bits.{bit_at-trailing_zeros}
use Rattle.kts_sets.proofs.words.lowest.Goals as goal

pub returns-else-word-eq0 : goal.returns-else-word-eq0
returns-else-word-eq0 c = let t = bit_at-trailing_zeros w64 c.args.word (omega arith) c.ranges.word.fits in record { within = t.0; set = t.1; lower = t.2 }
