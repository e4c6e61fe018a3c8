use Rattle.std.proofs.Common.{arith}
use Rattle.kts_sets.proofs.Edits.{set_of-take, set_of-take_past}
use Rattle.kts_sets.proofs.set.MemberSet.without.Goals as goal
use Rattle.kts_sets.proofs.set.MemberSet.without.Goals.{then-m, else-m}

pub returns : goal.returns
returns g c = elim c.if-m.branch [
  | then-m w ↦ rw (w.words-is, ← c.self.view_is) (set_of-take c.self.inside.words c.args.m (omega (arith, c.self.invariant.long)))
  | else-m w ↦ rw (w.words-is, ← c.self.view_is) (set_of-take_past c.self.inside.words c.args.m (omega (arith, c.self.invariant.long)))
]
