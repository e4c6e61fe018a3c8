use Rattle.kts_sets.proofs.Pointwise.{has-zeros}
use Rattle.kts_sets.proofs.SimpleSets.{set_of-none}
use Rattle.kts_sets.proofs.set.MemberSet.empty.Goals as goal

pub returns : goal.returns
returns g c = set_of-none _ (λ m _. has-zeros g.row.W m)
