use Rattle.kts_top.specs.Contents.{content_of}
use Rattle.kts_top.specs.Owed.{canonical, verdict}
use Rattle.kts_top.specs.Refusals.{refusal}
use Rattle.kts_top.proofs.Readings.{content_done, fault_told}
use Rattle.kts_top.proofs.RunAnswers.{line_put}
use Rattle.kts_top.proofs.verdict.put_verdict.Goals as goal

pub returns-in-Ok : goal.returns-in-Ok
unfolding verdict
returns-in-Ok g c =
    content_done refusal canonical (content_of c.args.bytes.now) _ c.in-Ok.ensures.content (line_put c.print.result c.status_of.ensures (λ h. cc) c.print.ensures)

pub returns-in-Err : goal.returns-in-Err
unfolding verdict
returns-in-Err g c = fault_told refusal canonical (content_of c.args.bytes.now) c.in-Err.fault c.in-Err.ensures.content c.say_fault.ensures
