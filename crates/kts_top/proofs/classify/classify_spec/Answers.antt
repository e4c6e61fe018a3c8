use Rattle.kts_top.specs.Endings.{ended}
use Rattle.kts_top.proofs.RunAnswers.{line_put}
use Rattle.kts_top.proofs.classify.classify_spec.Goals as goal

pub returns-in-Ok : goal.returns-in-Ok
returns-in-Ok g c = ended (line_put c.put_classification.result c.status_of.ensures (λ h. cc) c.put_classification.ensures)
