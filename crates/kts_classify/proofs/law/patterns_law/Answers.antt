use Rattle.kts_classify.proofs.PatternPairings.{patterns_pair}
use Rattle.kts_classify.proofs.law.patterns_law.Goals as goal

pub returns : goal.returns
returns c = patterns_pair
