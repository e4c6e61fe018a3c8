use Rattle.std.proofs.Common.{length}
use Rattle.kts_top.proofs.sample_texts.+append_parts.Given as goal

abbrev pub decreases-append_parts : goal.decreases-append_parts
decreases-append_parts l = length l.parts.now
