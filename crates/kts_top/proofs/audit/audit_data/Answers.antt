use Rattle.kts_data.specs.Instances.{data_of}
use Rattle.kts_top.specs.Owed.{data_judged}
use Rattle.kts_top.specs.Refusals.{refused_data}
use Rattle.kts_top.proofs.Loading.{goes_by, fault_ends}
use Rattle.kts_top.proofs.audit.audit_data.Goals as goal

pub returns-in-Ok : goal.returns-in-Ok
unfolding data_judged
returns-in-Ok g c = goes_by refused_data _ (data_of c.args.spec.now.schema c.args.bytes.items) c.in-Ok.inst (rw (c.schema.ensures, c.deref.ensures.value) at c.in-Ok.ensures.says) c.load_plan.ensures

pub returns-in-Err : goal.returns-in-Err
unfolding data_judged
returns-in-Err g c =
    fault_ends refused_data _ (data_of c.args.spec.now.schema c.args.bytes.items) c.in-Err.fault (rw (c.schema.ensures, c.deref.ensures.value) at c.in-Err.ensures.says) c.say_data_fault.ensures
