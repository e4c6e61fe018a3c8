use Rattle.kts_sets.specs.Sets.{elem}
use Rattle.kts_sets.specs.ChoiceLaws.{length-filter-all}
use Rattle.kts_sets.proofs.choice.ChoiceSemi.leq.Goals as goal

pub returns-clause-value : goal.returns-clause-value
returns-clause-value g c = rw (c.len.ensures.len, c.len-2.ensures.len, c.meet-both.ensures, ← c.self.view_is, ← c.other.view_is) (length-filter-all (λ m. elem m c.self.inside.set) c.other.inside.set)
