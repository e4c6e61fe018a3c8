use Rattle.std.proofs.Common.{refl, subst, ℕ, List, Some, option_map, Bor}
use Rattle.kts_search.specs.WholeFaults.{IsWholeFault}
use Rattle.kts_top.specs.Courses.{ended, lacked}
use Rattle.kts_top.proofs.Loading.{by_code, length_refused}
use Rattle.kts_top.proofs.solution.solve_spec.Goals as goal

pub returns-in-Ok : goal.returns-in-Ok
returns-in-Ok g c =
    by_code c.args.options (option_map (λ (path : Bor (List ℕ)). path.now) c.args.data) c.args.spec.now (Some c.in-Ok.code) c.in-Ok.ensures.code c.load_data.ensures

pub returns-in-Err-TooLong : goal.returns-in-Err-TooLong
returns-in-Err-TooLong g c =
    let spec = c.args.spec.now in
    let long = subst (IsWholeFault spec) c.in-Err-TooLong.field-0-is c.in-Err-TooLong.ensures.fault in
    length_refused c.args.options (option_map (λ (path : Bor (List ℕ)). path.now) c.args.data) spec c.in-Err-TooLong.length long (ended refl (rw c.in-Err-TooLong.field-0-is at c.say_refused_length.ensures))

pub returns-in-Err-NoMemory : goal.returns-in-Err-NoMemory
returns-in-Err-NoMemory g c = lacked refl c.say_no_memory.ensures
