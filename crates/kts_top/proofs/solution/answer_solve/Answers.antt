use Rattle.std.proofs.Common.{option_map, Bor, ℕ, List}
use Rattle.kts_top.specs.Courses.{unread}
use Rattle.kts_top.specs.Owed.{spec_solved}
use Rattle.kts_top.proofs.Loading.{goes_on}
use Rattle.kts_top.proofs.solution.answer_solve.Goals as goal

pub returns-in-Ok : goal.returns-in-Ok
returns-in-Ok g c =
    let table = option_map (λ (path : Bor (List ℕ)). path.now) c.args.data in
    goes_on c.args.spec.now c.in-Ok.bytes.items (spec_solved c.args.options table) c.in-Ok.ensures.read c.in-Ok.ensures.quiet c.solve_bytes.ensures

pub returns-in-Err : goal.returns-in-Err
returns-in-Err g c = unread c.in-Err.ensures.unread
