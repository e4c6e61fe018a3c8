use Rattle.kts_clause.proofs.ClauseCounts.{clauses_few, clauses_small}
use Rattle.kts_clause.proofs.ClauseKinds.{clauses_typed}
use Rattle.kts_clause.proofs.ClauseTruths.{all_mean}
use Rattle.kts_clause.proofs.law.clauses_law.Goals as goal

pub returns : goal.returns
returns c = record {
  truth = all_mean;
  kept = λ number p. record { few = clauses_few number p; small = clauses_small number p; typed = clauses_typed number p };
}
