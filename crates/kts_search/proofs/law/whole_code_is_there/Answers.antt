use Rattle.kts_search.proofs.WholeFormed.{whole_code_is_there}
use Rattle.kts_search.proofs.law.whole_code_is_there.Goals as goal

pub returns : goal.returns
returns c = whole_code_is_there
