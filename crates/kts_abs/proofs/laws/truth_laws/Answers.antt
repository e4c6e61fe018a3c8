use Rattle.kts_abs.proofs.Kleene.{ands, ors, nots}
use Rattle.kts_abs.proofs.laws.truth_laws.Goals as goal

pub returns : goal.returns
returns c = record { conjunction = ands; disjunction = ors; negation = nots }
