use Rattle.kts_top.proofs.CommandWords.{words_law}
use Rattle.kts_top.proofs.law.words_law.Goals as goal

pub returns : goal.returns
returns c = record { words = words_law }
