use Rattle.std.proofs.Common.{arith, sym, ◌∙◌, ◌*◌}
use Rattle.kts_sets.specs.SetLaws.{IsSet-set, IsSet-rises}
use Rattle.kts_sets.specs.Bits.{has}
use Rattle.kts_sets.specs.Sets.{set_of}
use Rattle.kts_sets.proofs.Pointwise.{has_past}
use Rattle.kts_sets.proofs.SimpleSets.{All-set_of}
use Rattle.kts_sets.proofs.Counts.{length-set_of}
use Rattle.kts_sets.proofs.set.MemberSet.len.Goals as goal

pub returns-clause-len : goal.returns-clause-len
returns-clause-len g c = rw (← c.self.view_is) (c.count.ensures ∙ sym (length-set_of c.self.inside.words (omega (arith, c.self.invariant.few, c.self.invariant.long)) c.self.invariant.fit))

pub returns-clause-set : goal.returns-clause-set
returns-clause-set g c = rw (← c.self.view_is) (IsSet-set (has c.self.inside.words))

pub returns-clause-rising : goal.returns-clause-rising
returns-clause-rising g c = rw (← c.self.view_is) (IsSet-rises (set_of (has c.self.inside.words)) (IsSet-set (has c.self.inside.words)))

pub returns-clause-below : goal.returns-clause-below
returns-clause-below g c = rw (← c.self.view_is) (All-set_of (has c.self.inside.words) (64 * g.row.W) (λ m h. has_past c.self.inside.words m (omega (arith, c.self.invariant.long))))
