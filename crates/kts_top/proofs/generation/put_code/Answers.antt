use Rattle.std.proofs.Common.{subst}
use Rattle.kts_search.specs.WholeFaults.{IsWholeFault}
use Rattle.kts_top.specs.Endings.{lacked}
use Rattle.kts_top.proofs.CodeLoading.{code_put, length_put}
use Rattle.kts_top.proofs.RunAnswers.{line_put}
use Rattle.kts_top.proofs.generation.put_code.Goals as goal

pub returns-in-Ok : goal.returns-in-Ok
returns-in-Ok g c = code_put c.args.spec.now c.in-Ok.code c.in-Ok.ensures.code (line_put c.write_code.result c.status_of.ensures (λ h. cc) c.write_code.ensures)

pub returns-in-Err-TooLong : goal.returns-in-Err-TooLong
returns-in-Err-TooLong g c =
    let long = subst (IsWholeFault c.args.spec.now) c.in-Err-TooLong.field-0-is c.in-Err-TooLong.ensures.fault in
    length_put c.args.spec.now c.in-Err-TooLong.length long c.say_refused_length.ensures

pub returns-in-Err-NoMemory : goal.returns-in-Err-NoMemory
returns-in-Err-NoMemory g c = lacked c.say_no_memory.ensures
