use Rattle.std.proofs.Common.{length}
use Rattle.kts_emit.proofs.draft.+close_loops.Given as goal

abbrev pub decreases-close_loops : goal.decreases-close_loops
decreases-close_loops l = length l.indexes.now
