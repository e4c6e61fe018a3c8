use Rattle.std.proofs.Common.{◌≡◌, ◌≤◌, ◌*◌, refl, ap, ◌∙◌, length, subst, vec_capacity, rules}
use Rattle.std.proofs.lemmas.List.{length-map}
use Rattle.kts_rows.specs.Trails.{bottoms, bottom_slot}
use Rattle.kts_rows.proofs.Parts.{AreParts-bottom, cells_of-bottoms}
use Rattle.kts_rows.proofs.row.Row.open.Goals as goal

pub invariant_of-result : goal.invariant_of-result
invariant_of-result g c =
    let slots : c.in_ok-slots.slots.items ≡ bottoms c.args.cells = search rules in
    let count : c.len.result ≡ length c.in_ok-slots.slots.items = search rules in
    let long : c.len.result ≡ length c.args.cells = count ∙ ap length slots ∙ length-map c.args.cells bottom_slot in
    AreParts-bottom c.args.cells c.in_ok-slots.slots.items c.in_ok-trail.trail.items c.in_ok-starts.starts.items c.args.depth
    (vec_capacity c.in_ok-starts.starts) (vec_capacity c.in_ok-trail.trail)
    slots c.in_ok-trail.ensures.items c.in_ok-starts.ensures.items c.in_ok-starts.ensures.room (subst
    (λ n. n * c.args.depth ≤ vec_capacity c.in_ok-trail.trail) long c.in_ok-trail.ensures.room)

pub returns : goal.returns
returns g c =
    let slots : c.in_ok-slots.slots.items ≡ bottoms c.args.cells = search rules in
    rw (slots, c.in_ok-starts.ensures.items, cells_of-bottoms c.args.cells) refl
