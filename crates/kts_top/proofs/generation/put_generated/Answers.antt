use Rattle.kts_top.specs.Contents.{content_of}
use Rattle.kts_top.specs.Owed.{generated}
use Rattle.kts_top.specs.Refusals.{refusal}
use Rattle.kts_top.proofs.Readings.{fault_told}
use Rattle.kts_top.proofs.generation.put_generated.Goals as goal

pub returns-in-Ok : goal.returns-in-Ok
unfolding generated
returns-in-Ok g c = rw (rw c.deref.ensures.value at c.in-Ok.ensures.content, c.in-Ok.ensures.made.is) c.put_code.ensures

pub returns-in-Err : goal.returns-in-Err
unfolding generated
returns-in-Err g c = fault_told refusal _ (content_of c.args.bytes.items) c.in-Err.fault (rw c.deref.ensures.value at c.in-Err.ensures.content) c.say_fault.ensures
