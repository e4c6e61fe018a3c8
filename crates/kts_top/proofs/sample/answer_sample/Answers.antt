use Rattle.std.proofs.Common.{◌∙◌}
use Rattle.kts_top.specs.Endings.{lacked}
use Rattle.kts_top.proofs.SampleRuns.{files_put}
use Rattle.kts_top.proofs.sample.answer_sample.Goals as goal

pub returns-in-Ok : goal.returns-in-Ok
returns-in-Ok g c =
    files_put c.args.size c.as_slice.result.now c.as_slice-in-Ok.result.now (c.as_slice.ensures ∙ c.in-Ok.ensures.spec) (c.as_slice-in-Ok.ensures ∙ c.in-Ok.ensures.table) c.summarize_files.ensures

pub returns-in-Err : goal.returns-in-Err
returns-in-Err g c = lacked c.say_no_memory.ensures
