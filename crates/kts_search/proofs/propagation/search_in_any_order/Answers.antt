use Rattle.kts_search.proofs.PrintedAnswers.{prints_answers}
use Rattle.kts_search.proofs.Settling.{settles}
use Rattle.kts_search.proofs.WholeSearch.{code_searches}
use Rattle.kts_search.proofs.propagation.search_in_any_order.Goals as goal

pub returns : goal.returns
returns c = record { settles = settles; searches = code_searches; prints = prints_answers }
