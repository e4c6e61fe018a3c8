use Rattle.std.proofs.Common.{arith}
use Rattle.kts_spec.proofs.Conditions.{instance_facts}
use Rattle.kts_mean.proofs.TermValues as values
use Rattle.kts_mean.proofs.evaluator.Evaluator.size.Goals as goal

pub size-requires : goal.size-requires
size-requires c =
    let same = (instance_facts c.args.self.now.schema.now c.args.self.now.inst.now c.args.self.now.valid).indexes in
    let here = c.requires in
    omega (arith, same, here)

pub returns-clause-few : goal.returns-clause-few
returns-clause-few c =
    let few = values.few c.args.self.now.schema.now c.args.self.now.inst.now c.args.self.now.schedule.now c.args.self.now.valid c.args.self.now.stands c.args.index in
    let is = c.size.ensures in
    omega (arith, few, is)
