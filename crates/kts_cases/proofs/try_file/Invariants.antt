use Rattle.std.proofs.Common.{length}
use Rattle.kts_cases.proofs.try_file.Given as goal

abbrev pub decreases-loop-text : goal.decreases-loop-text
decreases-loop-text g l = length l.blocks.rest.now
