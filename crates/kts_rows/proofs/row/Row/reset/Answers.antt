use Rattle.std.proofs.Common.{◌≡◌, arith, refl, ap, ◌∙◌, vec_capacity}
use Rattle.kts_rows.specs.Trails.{bottoms}
use Rattle.kts_rows.proofs.Parts.{AreParts-bottom, cells_of-bottoms}
use Rattle.kts_rows.proofs.row.Row.reset.Goals as goal

pub invariant_of-self : goal.invariant_of-self
invariant_of-self g c =
    let i = c.self.invariant in
    let slots : c.refill.new.slots.items ≡ bottoms c.self.inside.opened = c.refill.ensures ∙ ap bottoms c.as_slice.ensures in
    AreParts-bottom c.self.inside.opened c.refill.new.slots.items c.clear.new.self.items c.clear-2.new.self.items c.self.inside.depth
    (vec_capacity c.clear-2.new.self) (vec_capacity c.clear.new.self)
    slots c.clear.ensures.items c.clear-2.ensures.items (omega (arith, i.marks_fit, c.clear-2.ensures.capacity))
    (rw i.width (omega (arith, i.entries_fit, c.clear.ensures.capacity)))

pub returns-clause-opened : goal.returns-clause-opened
returns-clause-opened g c =
    let slots : c.refill.new.slots.items ≡ bottoms c.self.inside.opened = c.refill.ensures ∙ ap bottoms c.as_slice.ensures in
    rw (slots, c.clear-2.ensures.items, cells_of-bottoms c.self.inside.opened, ← c.self.view_is) refl
