use Rattle.std.proofs.Common.{◌≡◌, take, drop, length, All, vec_capacity}
use Rattle.kts_rows.specs.Trails.{undone, IsIn}
use Rattle.kts_rows.proofs.trail.undo.Given as goal

abbrev pub invariant-loop-trail : goal.invariant-loop-trail
invariant-loop-trail g l = record {
  slots : undone (drop l.start l.trail.items) l.slots.items ≡ undone (drop l.start l.initial.trail.items) l.initial.slots.items;
  trail : take l.start l.trail.items ≡ take l.start l.initial.trail.items;
  places : All (IsIn (length l.slots.items)) (drop l.start l.trail.items);
  room : vec_capacity l.trail ≡ vec_capacity l.initial.trail;
}

abbrev pub decreases-loop-trail : goal.decreases-loop-trail
decreases-loop-trail g l = length l.trail.items
