use Rattle.std.proofs.Common.{◌≡◌, ◌∙◌, ◌≤◌, ◌*◌, refl, sym, ap, subst, length, arith, vec_capacity}
use Rattle.std.proofs.lemmas.List.{length-map}
use Rattle.kts_rows.specs.Rows.{RowOf}
use Rattle.kts_rows.specs.Trails.{value_of, cells_of, bottoms}
use Rattle.kts_rows.proofs.Parts.{AreParts-bottom, cells_of-bottoms}
use Rattle.kts_rows.proofs.row.Row.reopen.Goals as goal

pub replace-requires : goal.replace-requires
replace-requires g c =
    let long : length c.args.cells.now ≡ length (cells_of c.self.inside.slots.items) = subst (λ (r : RowOf g.row.L.Denot). length c.args.cells.now ≡ length r.cells) (sym c.self.view_is) c.requires in
    c.self.invariant.width ∙ sym (long ∙ length-map c.self.inside.slots.items value_of)

pub refill-requires : goal.refill-requires
refill-requires g c =
    let long : length c.args.cells.now ≡ length (cells_of c.self.inside.slots.items) = subst (λ (r : RowOf g.row.L.Denot). length c.args.cells.now ≡ length r.cells) (sym c.self.view_is) c.requires in
    sym (long ∙ length-map c.self.inside.slots.items value_of)

pub invariant_of-self : goal.invariant_of-self
invariant_of-self g c =
    let i = c.self.invariant in
    let long : length c.args.cells.now ≡ length (cells_of c.self.inside.slots.items) = subst (λ (r : RowOf g.row.L.Denot). length c.args.cells.now ≡ length r.cells) (sym c.self.view_is) c.requires in
    let room : length c.args.cells.now * c.self.inside.depth ≤ vec_capacity c.clear.new.self =
    rw (long ∙ length-map c.self.inside.slots.items value_of) (omega (arith, i.entries_fit, c.clear.ensures.capacity)) in
    AreParts-bottom c.replace.new.cells c.refill.new.slots.items c.clear.new.self.items c.clear-2.new.self.items c.self.inside.depth
    (vec_capacity c.clear-2.new.self) (vec_capacity c.clear.new.self)
    (c.refill.ensures ∙ ap bottoms (sym c.replace.ensures)) c.clear.ensures.items c.clear-2.ensures.items
    (omega (arith, i.marks_fit, c.clear-2.ensures.capacity)) (rw c.replace.ensures room)

pub returns : goal.returns
returns g c =
    rw (c.refill.ensures, c.replace.ensures, c.clear-2.ensures.items, cells_of-bottoms c.args.cells.now, ← c.self.view_is) refl
