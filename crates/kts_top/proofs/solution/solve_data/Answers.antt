use Rattle.kts_data.specs.Instances.{data_of}
use Rattle.kts_top.specs.Owed.{data_answer}
use Rattle.kts_top.specs.Refusals.{refused_data}
use Rattle.kts_top.proofs.Readings.{fault_told}
use Rattle.kts_top.proofs.solution.solve_data.Goals as goal

pub returns-in-Ok : goal.returns-in-Ok
unfolding data_answer
returns-in-Ok g c = rw (rw c.schema.ensures at c.in-Ok.ensures.says) c.solve_instance.ensures

pub returns-in-Err : goal.returns-in-Err
unfolding data_answer
returns-in-Err g c =
    fault_told refused_data _ (data_of c.args.code.now.schema c.args.bytes.now) c.in-Err.fault (rw c.schema.ensures at c.in-Err.ensures.says) c.say_data_fault.ensures
