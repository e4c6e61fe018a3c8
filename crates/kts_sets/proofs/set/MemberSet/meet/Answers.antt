use Rattle.std.proofs.Common.{◌∙◌, sym, ap, ◌&&◌}
use Rattle.kts_sets.specs.Sets.{set_of, elem}
use Rattle.kts_sets.specs.SetLaws.{set_ext, filter-set, elem-set}
use Rattle.kts_sets.specs.Bits.{has}
use Rattle.kts_sets.proofs.set.MemberSet.meet.Goals as goal

pub returns : goal.returns
returns g c = rw (← c.self.view_is, ← c.other.view_is)
    (set_ext _ (λ m. has c.self.inside.words m && elem m (set_of (has c.other.inside.words)))
    (λ m h. c.both.ensures m ∙ ap (λ b. has c.self.inside.words m && b) (sym (elem-set (has c.other.inside.words) m h)))
    ∙ sym (filter-set (has c.self.inside.words) (λ m. elem m (set_of (has c.other.inside.words)))))
