use Rattle.kts_spec.proofs.Conditions.{instance_facts, instance_valid}
use Rattle.kts_spec.proofs.laws.instances_keep.Goals as goal

pub returns : goal.returns
returns c schema inst = (instance_facts schema inst, instance_valid schema inst)
