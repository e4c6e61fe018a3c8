use Rattle.kts_plan.proofs.TruthValues.{clauses_in_spaces}
use Rattle.kts_plan.proofs.laws.clauses_hold_in_spaces.Goals as goal

pub returns : goal.returns
returns c = clauses_in_spaces
