use Rattle.kts_search.proofs.PrintedTexts.{text_is_right}
use Rattle.kts_search.proofs.law.whole_text_is_right.Goals as goal

pub returns : goal.returns
returns c = text_is_right
