use Rattle.kts_check.specs.Specs.{spec_of}
use Rattle.kts_top.specs.Contents.{content_of}
use Rattle.kts_top.specs.Owed.{data_wanted, spec_judged}
use Rattle.kts_top.specs.Refusals.{refusal}
use Rattle.kts_top.proofs.Loading.{goes_by, fault_ends}
use Rattle.kts_top.proofs.audit.audit_spec.Goals as goal

pub returns-in-Ok : goal.returns-in-Ok
unfolding spec_judged
returns-in-Ok g c =
    goes_by refusal (λ content. data_wanted c.args.data.now c.args.plan.now (spec_of content.parts)) (content_of c.args.bytes.items) _ (rw c.deref.ensures.value at c.in-Ok.ensures.content)
    (rw c.in-Ok.ensures.made.is c.load_data.ensures)

pub returns-in-Err : goal.returns-in-Err
unfolding spec_judged
returns-in-Err g c =
    fault_ends refusal _ (content_of c.args.bytes.items) c.in-Err.fault (rw c.deref.ensures.value at c.in-Err.ensures.content) c.say_fault.ensures
