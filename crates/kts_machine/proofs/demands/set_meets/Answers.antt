use Rattle.std.proofs.Common.{◌∙◌}
use Rattle.kts_machine.proofs.SetDemands.{meets_within}
use Rattle.kts_machine.proofs.demands.set_meets.Goals as goal

pub returns-in-Within : goal.returns-in-Within
returns-in-Within g c = rw c.in-Within.is (c.leq.ensures.value ∙ meets_within c.args.bound.now c.args.cell.now)
