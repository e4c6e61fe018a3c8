use Rattle.std.proofs.Common.{◌∙◌, sym, refl, ◌||◌}
use Rattle.kts_sets.specs.Sets.{set_of, elem}
use Rattle.kts_sets.specs.SetLaws.{set_ext, elem-set}
use Rattle.kts_sets.specs.Bits.{has}
use Rattle.kts_sets.proofs.set.MemberSet.join_sets.Goals as goal

pub returns : goal.returns
returns g c = rw (← c.self.view_is, ← c.other.view_is)
    (set_ext _ (λ m. elem m (set_of (has c.self.inside.words)) || elem m (set_of (has c.other.inside.words)))
    (λ m h. c.either.ensures m ∙ sym (rw (elem-set (has c.self.inside.words) m h, elem-set (has c.other.inside.words) m h) refl)))
