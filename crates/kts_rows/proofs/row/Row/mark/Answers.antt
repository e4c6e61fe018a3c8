use Rattle.std.proofs.Common.{◌≡◌, ◌<◌, arith, rules, sym, subst, refl, length, map, reverse, vec_capacity}
use Rattle.std.proofs.lemmas.List.{length-map, length-reverse}
use Rattle.kts_rows.specs.Rows.{RowOf}
use Rattle.kts_rows.specs.Trails.{cells_at}
use Rattle.kts_rows.proofs.Parts.{AreParts-mark, marks-mark}
use Rattle.kts_rows.proofs.row.Row.mark.Goals as goal

pub invariant_of-self : goal.invariant_of-self
invariant_of-self g c =
    let top : c.len-start.result ≡ length c.self.inside.trail.items = search rules in
    let fits : length (map (cells_at c.self.inside.trail.items c.self.inside.slots.items) (reverse c.self.inside.starts.items)) < c.self.inside.depth =
    subst (λ (r : RowOf g.row.L.Denot). length r.marks < r.depth) (sym c.self.view_is) c.requires in
    AreParts-mark c.self.inside.opened c.self.inside.slots.items c.self.inside.trail.items c.self.inside.starts.items c.push.new.self.items
    c.len-start.result c.self.inside.depth
    (vec_capacity c.self.inside.starts) (vec_capacity c.push.new.self) (vec_capacity c.self.inside.trail) c.self.invariant c.in-Ok.ensures.items top
    (omega (
      arith,
      fits,
      length-map (reverse c.self.inside.starts.items)
          (cells_at c.self.inside.trail.items c.self.inside.slots.items),
      length-reverse c.self.inside.starts.items,
    ))
    c.push.ensures.capacity

pub returns : goal.returns
returns g c =
    let top : c.len-start.result ≡ length c.self.inside.trail.items = search rules in
    rw (
      marks-mark c.self.inside.slots.items c.self.inside.trail.items c.self.inside.starts.items c.push.new.self.items c.len-start.result
          c.in-Ok.ensures.items top,
      ← c.self.view_is,
    ) refl
