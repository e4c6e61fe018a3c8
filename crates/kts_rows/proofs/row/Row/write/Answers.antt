use Rattle.std.proofs.Common.{◌≡◌, ◌<◌, arith, rules, refl, sym, subst, length, vec_capacity}
use Rattle.std.proofs.lemmas.List.{length-map}
use Rattle.kts_rows.specs.Rows.{RowOf}
use Rattle.kts_rows.specs.declared.trail.Slot.{Slot}
use Rattle.kts_rows.specs.Trails.{value_of, cells_of}
use Rattle.kts_rows.proofs.Parts.{slice_get-read, entry_fits-write, AreParts-write, marks-write, cells_of-set}
use Rattle.kts_rows.proofs.row.Row.write.Goals as goal

pub enter-requires : goal.enter-requires
enter-requires g c =
    let within : c.args.at < length (cells_of c.self.inside.slots.items) = subst (λ (r : RowOf g.row.L.Denot). c.args.at < length r.cells)
    (sym c.self.view_is) c.requires in
    let got = slice_get-read c.self.inside.slots.items c.args.at c.index-before.result.now (omega
    (arith, within, length-map c.self.inside.slots.items value_of)) c.index-before.ensures in
    let top : c.len-level.result ≡ length c.self.inside.starts.items = search rules in
    λ below. let fits = entry_fits-write c.self.inside.opened c.self.inside.slots.items c.self.inside.trail.items c.self.inside.starts.items c.args.at
    c.len-level.result c.self.inside.depth
    (vec_capacity c.self.inside.starts) (vec_capacity c.self.inside.trail) c.index-before.result.now c.self.invariant got top below in search (rules, fits)

pub invariant_of-self : goal.invariant_of-self
invariant_of-self g c =
    let within : c.args.at < length (cells_of c.self.inside.slots.items) = subst (λ (r : RowOf g.row.L.Denot). c.args.at < length r.cells)
    (sym c.self.view_is) c.requires in
    let got = slice_get-read c.self.inside.slots.items c.args.at c.index-before.result.now (omega
    (arith, within, length-map c.self.inside.slots.items value_of)) c.index-before.ensures in
    let top : c.len-level.result ≡ length c.self.inside.starts.items = search rules in
    AreParts-write c.self.inside.opened c.self.inside.slots.items c.self.inside.trail.items c.enter.new.trail.items c.self.inside.starts.items c.args.at
    c.len-level.result c.self.inside.depth
    (vec_capacity c.self.inside.starts) (vec_capacity c.self.inside.trail) (vec_capacity c.enter.new.trail) c.index-before.result.now
    (record { value = c.args.value; level = c.len-level.result })
    c.self.invariant got top refl c.enter.ensures.entry c.enter.ensures.room

pub returns : goal.returns
returns g c =
    let within : c.args.at < length (cells_of c.self.inside.slots.items) = subst (λ (r : RowOf g.row.L.Denot). c.args.at < length r.cells)
    (sym c.self.view_is) c.requires in
    let got = slice_get-read c.self.inside.slots.items c.args.at c.index-before.result.now (omega
    (arith, within, length-map c.self.inside.slots.items value_of)) c.index-before.ensures in
    let top : c.len-level.result ≡ length c.self.inside.starts.items = search rules in
    let next : Slot g.row.L.Denot = record { value = c.args.value; level = c.len-level.result } in
    rw (
      marks-write c.self.inside.slots.items c.self.inside.trail.items c.enter.new.trail.items c.self.inside.starts.items c.args.at c.len-level.result
          c.index-before.result.now next
          c.self.invariant.levels got top refl c.enter.ensures.entry,
      cells_of-set c.self.inside.slots.items c.args.at next,
      ← c.self.view_is,
    ) refl
