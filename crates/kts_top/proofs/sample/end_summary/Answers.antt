use Rattle.std.proofs.Common.{◌∙◌, length, []}
use Rattle.kts_top.specs.Endings.{lacked}
use Rattle.kts_top.specs.Runs.{last_of}
use Rattle.kts_top.proofs.SampleRuns.{counted_all}
use Rattle.kts_top.proofs.sample.end_summary.Goals as goal

pub returns-in-WriteFault : goal.returns-in-WriteFault
returns-in-WriteFault g c text lines told = lacked c.say_no_memory.ensures

pub returns-in_default : goal.returns-in_default
returns-in_default g c text lines told =
    let all = counted_all c.args.count.now c.end_run.new.out (length text) (last_of [] c.args.outcome) told c.end_run.ensures c.in_default.not-WriteFault in
    c.put_summary.ensures text lines (c.count.ensures ∙ all)
