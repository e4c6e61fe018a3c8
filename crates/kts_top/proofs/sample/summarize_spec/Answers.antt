use Rattle.std.proofs.Common.{subst}
use Rattle.kts_search.specs.WholeFaults.{IsWholeFault}
use Rattle.kts_top.specs.Endings.{lacked}
use Rattle.kts_top.proofs.SampleRuns.{code_summed, length_put}
use Rattle.kts_top.proofs.sample.summarize_spec.Goals as goal

pub returns-in-Ok : goal.returns-in-Ok
returns-in-Ok g c = rw (code_summed c.args.size c.args.spec.now c.in-Ok.code c.args.table.now c.in-Ok.ensures.code) at c.summarize_data.ensures

pub returns-in-Err-TooLong : goal.returns-in-Err-TooLong
returns-in-Err-TooLong g c =
    let long = subst (IsWholeFault c.args.spec.now) c.in-Err-TooLong.field-0-is c.in-Err-TooLong.ensures.fault in
    length_put c.args.size c.args.spec.now c.in-Err-TooLong.length c.args.table.now long (rw c.in-Err-TooLong.field-0-is at c.say_refused_length.ensures)

pub returns-in-Err-NoMemory : goal.returns-in-Err-NoMemory
returns-in-Err-NoMemory g c = lacked c.say_no_memory.ensures
