use Rattle.kts_machine.proofs.JoinedValues.{union_joined}
use Rattle.kts_machine.proofs.reads.either.Goals as goal

pub returns : goal.returns
returns g c = union_joined c.args.ms.now c.args.ns.now c.union.result c.set.ensures.valid c.set-2.ensures.valid c.union.ensures
