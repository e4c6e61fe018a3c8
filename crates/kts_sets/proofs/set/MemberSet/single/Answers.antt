use Rattle.std.proofs.Common.{arith}
use Rattle.kts_sets.proofs.Edits.{set_of-put}
use Rattle.kts_sets.proofs.set.MemberSet.single.Goals as goal

pub returns-clause-member : goal.returns-clause-member
returns-clause-member g c = set_of-put g.row.W c.args.m (omega arith) (omega arith)
