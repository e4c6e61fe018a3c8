use Rattle.kts_emit.proofs.ClausePushes.{clauses_push_truth}
use Rattle.kts_emit.proofs.FormedClauses.{clauses_are_well_formed}
use Rattle.kts_emit.proofs.LongClauses.{clauses_have_length}
use Rattle.kts_emit.proofs.laws.clauses_push_truth.Goals as goal

pub returns : goal.returns
returns c = record { truth = clauses_push_truth; length = clauses_have_length; formed = clauses_are_well_formed }
