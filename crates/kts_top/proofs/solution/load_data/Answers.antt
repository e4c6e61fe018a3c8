use Rattle.std.proofs.Common.{ℕ, List, Bor}
use Rattle.kts_top.specs.Courses.{unread}
use Rattle.kts_top.specs.Owed.{data_answer, empty_object, program_of}
use Rattle.kts_top.proofs.Loading.{after_read, end_read, told, not_told}
use Rattle.kts_top.proofs.solution.load_data.Goals as goal

pub returns-in-Ok : goal.returns-in-Ok
returns-in-Ok g c =
    let owes = data_answer c.args.options (program_of c.args.spec.now c.args.code.now) in
    told (λ (path : Bor (List ℕ)). path.now) c.args.data owes c.in-Some.path c.in-Some.is
    (after_read c.in-Some.path.now c.in-Ok.bytes.items owes c.in-Ok.ensures.read c.in-Ok.ensures.quiet (rw c.deref.ensures.value at c.solve_data.ensures))

pub returns-in-Err : goal.returns-in-Err
returns-in-Err g c =
    let owes = data_answer c.args.options (program_of c.args.spec.now c.args.code.now) in
    told (λ (path : Bor (List ℕ)). path.now) c.args.data owes c.in-Some.path c.in-Some.is (unread c.in-Err.ensures.unread)

pub returns-in-None : goal.returns-in-None
returns-in-None g c =
    let owes = data_answer c.args.options (program_of c.args.spec.now c.args.code.now) in
    not_told (λ (path : Bor (List ℕ)). path.now) c.args.data owes c.in-None.is (end_read {owed = owes empty_object} c.solve_data-in-None.ensures)
