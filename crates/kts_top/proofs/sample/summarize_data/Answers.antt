use Rattle.kts_data.specs.Instances.{data_of}
use Rattle.kts_top.specs.Refusals.{refused_data}
use Rattle.kts_top.proofs.Readings.{fault_told}
use Rattle.kts_top.proofs.SampleRuns.{data_summed, answer_summed}
use Rattle.kts_top.proofs.sample.summarize_data.Goals as goal

pub returns-in-Ok : goal.returns-in-Ok
returns-in-Ok g c =
    rw (data_summed c.args.size c.args.spec.now c.args.code.now c.args.table.now, rw c.schema.ensures at c.in-Ok.ensures.says, answer_summed c.args.size c.args.spec.now c.args.code.now c.in-Ok.inst) c.summarize_instance.ensures

pub returns-in-Err : goal.returns-in-Err
returns-in-Err g c =
    rw (data_summed c.args.size c.args.spec.now c.args.code.now c.args.table.now)
    (fault_told refused_data _ (data_of c.args.code.now.schema c.args.table.now) c.in-Err.fault (rw c.schema.ensures at c.in-Err.ensures.says) c.say_data_fault.ensures)
