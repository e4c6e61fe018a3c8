use Rattle.std.proofs.Common.{◌≡◌, ◌+◌, drop}
use Rattle.kts_base.specs.Reads.{with_front}
use Rattle.kts_read.specs.Lines.{words_in}
use Rattle.kts_read.specs.ConstraintLines.{places_in}
use Rattle.kts_read.proofs.PlaceLoops.{places_at}
use Rattle.kts_read.proofs.constraints.places_in.Given as goal

abbrev pub invariant-loop-k : goal.invariant-loop-k
invariant-loop-k l = with_front l.places (places_at l.prefix (words_in l.line) (l.k + 3) (drop l.k l.args)) ≡ places_in l.prefix l.args (words_in l.line)
