use Rattle.kts_top.specs.Courses.{unread}
use Rattle.kts_top.specs.Owed.{plan_judged}
use Rattle.kts_top.proofs.Loading.{after_read}
use Rattle.kts_top.proofs.audit.load_plan.Goals as goal

pub returns-in-Ok : goal.returns-in-Ok
returns-in-Ok g c =
    after_read c.args.plan.now c.in-Ok.bytes.items (λ bytes. plan_judged c.args.spec.now c.args.inst.now bytes) c.in-Ok.ensures.read c.in-Ok.ensures.quiet
    (rw c.deref.ensures.value at c.audit_plan.ensures)

pub returns-in-Err : goal.returns-in-Err
returns-in-Err g c = unread c.in-Err.ensures.unread
