use Rattle.std.proofs.Common.{◌<◌, length}
use Rattle.kts_cases.proofs.case.Case.read.Given as goal

abbrev pub invariant-loop-setting : goal.invariant-loop-setting
invariant-loop-setting l = length l.blocks.rest.now < length l.fn.blocks.rest.now

abbrev pub decreases-loop-setting : goal.decreases-loop-setting
decreases-loop-setting l = length l.blocks.rest.now
