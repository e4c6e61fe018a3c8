use Rattle.kts_data.specs.Plans.{plan_of}
use Rattle.kts_mean.specs.Broken.{first_broken}
use Rattle.kts_top.specs.Owed.{judgement, plan_judged}
use Rattle.kts_top.specs.Refusals.{refused_plan}
use Rattle.kts_top.proofs.Judgements.{broken_within}
use Rattle.kts_top.proofs.Readings.{content_done, fault_told}
use Rattle.kts_top.proofs.audit.audit_plan.Goals as goal

pub returns-in-Ok : goal.returns-in-Ok
unfolding plan_judged
returns-in-Ok g c =
    content_done refused_plan (λ schedule. judgement c.args.spec.now (first_broken c.args.spec.now c.args.inst.now schedule)) (plan_of c.args.spec.now.schema c.args.inst.now c.args.bytes.now) c.in-Ok.plan (rw c.schema.ensures at c.in-Ok.ensures.says)
    (rw (c.first_broken.ensures, c.as_slice.ensures) at c.put_judgement.ensures)

pub returns-in-Err : goal.returns-in-Err
unfolding plan_judged
returns-in-Err g c =
    fault_told refused_plan _ (plan_of c.args.spec.now.schema c.args.inst.now c.args.bytes.now) c.in-Err.fault (rw c.schema.ensures at c.in-Err.ensures.says) c.say_data_fault.ensures

pub put_judgement-requires : goal.put_judgement-requires
put_judgement-requires g c = broken_within c.args.spec.now c.args.inst.now c.as_slice.result.now c.first_broken.result c.first_broken.ensures
