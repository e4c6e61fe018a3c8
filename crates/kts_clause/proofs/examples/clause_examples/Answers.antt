use Rattle.kts_clause.proofs.WorkedProofs.{examples}
use Rattle.kts_clause.proofs.examples.clause_examples.Goals as goal

pub returns : goal.returns
returns c = examples
