use Rattle.std.proofs.Common.{◌≡◌, ◌-◌, suc, arith, rules, sym, ◌∙◌, length}
use Rattle.std.proofs.lemmas.List.{length-set}
use Rattle.kts_rows.proofs.Undo.{IsLatest, place-latest, places-earlier, undone-step, undone-past, take-take}
use Rattle.kts_rows.proofs.trail.undo.Goals as goal

pub index_mut-requires : goal.index_mut-requires
index_mut-requires g c =
    let long : length c.loop-trail.trail.items ≡ suc (c.len-last.result - 1) = search rules in
    let latest : IsLatest c.args.start (c.len-last.result - 1) c.loop-trail.trail.items c.index-entry.result.now = record {
      long = long;
      within = omega
          (arith, long);
      is = c.index-entry.ensures;
    } in
    let at = place-latest c.args.start (c.len-last.result - 1)
    (length c.loop-trail.slots.items) c.loop-trail.trail.items c.index-entry.result.now latest c.loop-trail.invariant.places in
    search (rules, at)

pub loop-trail-preserved : goal.loop-trail-preserved
loop-trail-preserved g c =
    let long : length c.loop-trail.trail.items ≡ suc (c.len-last.result - 1) = search rules in
    let latest : IsLatest c.args.start (c.len-last.result - 1) c.loop-trail.trail.items c.index-entry.result.now = record {
      long = long;
      within = omega
          (arith, long);
      is = c.index-entry.ensures;
    } in
    rw (c.truncate.ensures.items, length-set c.loop-trail.slots.items c.index-entry.result.now.at c.index-entry.result.now.before) (record {
      slots = undone-step c.args.start (c.len-last.result - 1) c.loop-trail.trail.items c.loop-trail.slots.items c.index-entry.result.now latest
          ∙ c.loop-trail.invariant.slots;
      trail = take-take c.loop-trail.trail.items (c.len-last.result - 1) c.args.start latest.within ∙ c.loop-trail.invariant.trail;
      places = places-earlier c.args.start (c.len-last.result - 1)
          (length c.loop-trail.slots.items) c.loop-trail.trail.items c.index-entry.result.now latest c.loop-trail.invariant.places;
      room = c.truncate.ensures.capacity ∙ c.loop-trail.invariant.room;
    })

pub returns-clause-slots : goal.returns-clause-slots
returns-clause-slots g c = sym (undone-past c.args.start c.loop-trail.trail.items c.loop-trail.slots.items (omega arith)) ∙ c.loop-trail.invariant.slots
