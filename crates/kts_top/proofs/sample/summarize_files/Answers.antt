use Rattle.kts_top.specs.Contents.{content_of}
use Rattle.kts_top.specs.Refusals.{refusal}
use Rattle.kts_top.proofs.Readings.{fault_told}
use Rattle.kts_top.proofs.SampleRuns.{files_summed}
use Rattle.kts_top.proofs.sample.summarize_files.Goals as goal

pub returns-in-Ok : goal.returns-in-Ok
returns-in-Ok g c =
    rw (files_summed c.args.size c.args.spec.now c.args.table.now, c.in-Ok.ensures.content, c.in-Ok.ensures.made.is) c.summarize_spec.ensures

pub returns-in-Err : goal.returns-in-Err
returns-in-Err g c =
    rw (files_summed c.args.size c.args.spec.now c.args.table.now)
    (fault_told refusal _ (content_of c.args.spec.now) c.in-Err.fault c.in-Err.ensures.content c.say_fault.ensures)
