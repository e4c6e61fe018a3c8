use Rattle.kts_search.proofs.WorkedSearch.{search_worked}
use Rattle.kts_search.proofs.law.search_is_as_worked.Goals as goal

pub returns : goal.returns
returns c = search_worked
