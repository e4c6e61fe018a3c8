use Rattle.kts_top.specs.Courses.{unread}
use Rattle.kts_top.specs.Owed.{generated}
use Rattle.kts_top.proofs.Loading.{after_read}
use Rattle.kts_top.proofs.generation.answer_generate.Goals as goal

pub returns-in-Ok : goal.returns-in-Ok
returns-in-Ok g c = after_read c.args.spec.now c.in-Ok.bytes.items generated c.in-Ok.ensures.read c.in-Ok.ensures.quiet c.put_generated.ensures

pub returns-in-Err : goal.returns-in-Err
returns-in-Err g c = unread c.in-Err.ensures.unread
