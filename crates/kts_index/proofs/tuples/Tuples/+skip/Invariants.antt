use Rattle.std.proofs.Common.{length}
use Rattle.kts_index.proofs.tuples.Tuples.+skip.Given as goal

abbrev pub decreases-skip : goal.decreases-skip
decreases-skip l = length l.args.now
