use Rattle.kts_top.specs.Contents.{content_of}
use Rattle.kts_top.specs.Owed.{classified}
use Rattle.kts_top.specs.Refusals.{refusal}
use Rattle.kts_top.proofs.Readings.{fault_told}
use Rattle.kts_top.proofs.classify.put_classified.Goals as goal

pub returns-in-Ok : goal.returns-in-Ok
unfolding classified
returns-in-Ok g c = rw (c.in-Ok.ensures.content, c.in-Ok.ensures.made.is) c.classify_spec.ensures

pub returns-in-Err : goal.returns-in-Err
unfolding classified
returns-in-Err g c = fault_told refusal _ (content_of c.args.bytes.now) c.in-Err.fault c.in-Err.ensures.content c.say_fault.ensures
