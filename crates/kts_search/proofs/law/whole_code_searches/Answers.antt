use Rattle.kts_search.proofs.WholeParts.{whole_code_searches}
use Rattle.kts_search.proofs.law.whole_code_searches.Goals as goal

pub returns : goal.returns
returns c = whole_code_searches
