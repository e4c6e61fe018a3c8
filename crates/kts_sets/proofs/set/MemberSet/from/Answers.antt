use Rattle.std.proofs.Common.{arith}
use Rattle.kts_sets.proofs.Least.{least_from_is}
use Rattle.kts_sets.proofs.set.MemberSet.from.Goals as goal

pub returns-clause-least : goal.returns-clause-least
returns-clause-least g c = rw (← c.self.view_is) (least_from_is c.self.inside.words c.args.m c.least_from.result (omega (arith, c.self.invariant.few, c.self.invariant.long)) c.least_from.ensures)
