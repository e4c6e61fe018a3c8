use Rattle.kts_top.specs.Courses.{unread}
use Rattle.kts_top.specs.Owed.{data_judged}
use Rattle.kts_top.proofs.Loading.{goes_on}
use Rattle.kts_top.proofs.audit.load_data.Goals as goal

pub returns-in-Ok : goal.returns-in-Ok
returns-in-Ok g c =
    goes_on c.args.data.now c.in-Ok.bytes.items (data_judged c.args.spec.now c.args.plan.now) c.in-Ok.ensures.read c.in-Ok.ensures.quiet c.audit_data.ensures

pub returns-in-Err : goal.returns-in-Err
returns-in-Err g c = unread c.in-Err.ensures.unread
