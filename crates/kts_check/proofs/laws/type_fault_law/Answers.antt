use Rattle.kts_check.proofs.FaultForms.{fault_holds, one_holds, only_one}
use Rattle.kts_check.proofs.laws.type_fault_law.Goals as goal

pub returns : goal.returns
returns c = record { faults = fault_holds; either = one_holds; only = only_one }
