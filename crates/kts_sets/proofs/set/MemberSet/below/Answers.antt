use Rattle.std.proofs.Common.{◌∙◌, nat_lt, arith}
use Rattle.kts_sets.specs.Sets.{limit_is}
use Rattle.kts_sets.specs.SetLaws.{set_ext}
use Rattle.kts_sets.proofs.SimpleSets.{set_of-below}
use Rattle.kts_sets.proofs.set.MemberSet.below.Goals as goal

pub returns-clause-members : goal.returns-clause-members
returns-clause-members g c = set_ext _ (λ m. nat_lt m c.args.n) (λ m _. c.words_below.ensures m) ∙ set_of-below c.args.n (rw limit_is (omega arith))
