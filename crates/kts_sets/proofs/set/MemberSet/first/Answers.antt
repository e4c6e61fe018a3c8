use Rattle.std.proofs.Common.{arith}
use Rattle.kts_sets.proofs.Least.{least_is}
use Rattle.kts_sets.proofs.set.MemberSet.first.Goals as goal

pub returns-clause-least : goal.returns-clause-least
returns-clause-least g c = rw (← c.self.view_is) (least_is c.self.inside.words c.least_from.result (omega (arith, c.self.invariant.few, c.self.invariant.long)) c.least_from.ensures)
