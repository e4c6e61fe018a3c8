use Rattle.std.proofs.Common.{option_map, Bor, ℕ, List}
use Rattle.kts_check.specs.Specs.{spec_of}
use Rattle.kts_top.specs.Contents.{content_of}
use Rattle.kts_top.specs.Owed.{solution_wanted, spec_solved}
use Rattle.kts_top.specs.Refusals.{refusal}
use Rattle.kts_top.proofs.Loading.{goes_by, fault_ends}
use Rattle.kts_top.proofs.solution.solve_bytes.Goals as goal

pub returns-in-Ok : goal.returns-in-Ok
unfolding spec_solved
returns-in-Ok g c =
    goes_by refusal (λ content. solution_wanted c.args.options (option_map (λ (path : Bor (List ℕ)). path.now) c.args.data) (spec_of content.parts)) (content_of c.args.bytes.items) _ (rw c.deref.ensures.value at c.in-Ok.ensures.content)
    (rw c.in-Ok.ensures.made.is c.solve_spec.ensures)

pub returns-in-Err : goal.returns-in-Err
unfolding spec_solved
returns-in-Err g c =
    fault_ends refusal _ (content_of c.args.bytes.items) c.in-Err.fault (rw c.deref.ensures.value at c.in-Err.ensures.content) c.say_fault.ensures
