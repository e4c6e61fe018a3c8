use Rattle.kts_top.specs.Courses.{unread}
use Rattle.kts_top.specs.Owed.{code_run}
use Rattle.kts_top.proofs.Loading.{goes_on}
use Rattle.kts_top.proofs.code_run.answer_run.Goals as goal

pub returns-in-Ok : goal.returns-in-Ok
returns-in-Ok g c = goes_on c.args.code.now c.in-Ok.bytes.items (code_run c.args.options c.args.data_path.now) c.in-Ok.ensures.read c.in-Ok.ensures.quiet c.run_bytes.ensures

pub returns-in-Err : goal.returns-in-Err
returns-in-Err g c = unread c.in-Err.ensures.unread
