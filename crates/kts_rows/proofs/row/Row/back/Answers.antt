use Rattle.std.proofs.Common.{arith, sym, ◌∙◌, drop, vec_capacity}
use Rattle.std.proofs.lemmas.List.{length-map}
use Rattle.kts_rows.specs.Trails.{value_of, undone}
use Rattle.kts_rows.proofs.Undo.{length-undone}
use Rattle.kts_rows.proofs.Parts.{places-back, AreParts-back, marks-back}
use Rattle.kts_rows.proofs.row.Row.back.Goals as goal

pub undo-requires : goal.undo-requires
undo-requires g c = places-back c.self.inside.trail.items c.self.inside.slots.items c.self.inside.starts.items c.pop.new.self.items c.in-Some.start
    c.self.invariant.levels c.in-Some.ensures.items

pub invariant_of-self : goal.invariant_of-self
invariant_of-self g c =
    AreParts-back c.self.inside.opened c.self.inside.slots.items c.undo.new.slots.items c.self.inside.trail.items c.undo.new.trail.items
    c.self.inside.starts.items c.pop.new.self.items c.in-Some.start c.self.inside.depth
    (vec_capacity c.self.inside.starts) (vec_capacity c.pop.new.self) (vec_capacity c.self.inside.trail)
    (vec_capacity c.undo.new.trail) c.self.invariant c.in-Some.ensures.items
    c.undo.ensures.slots c.undo.ensures.trail (omega (arith, c.pop.ensures.capacity)) (omega (arith, c.undo.ensures.room))

pub returns-in-Some-clause-latest : goal.returns-in-Some-clause-latest
returns-in-Some-clause-latest g c = rw (← c.self.view_is)
    (marks-back c.self.inside.slots.items c.undo.new.slots.items c.self.inside.trail.items c.undo.new.trail.items c.self.inside.starts.items
    c.pop.new.self.items c.in-Some.start
    c.self.invariant.levels c.in-Some.ensures.items c.undo.ensures.slots c.undo.ensures.trail)

pub returns-in-Some-clause-len : goal.returns-in-Some-clause-len
returns-in-Some-clause-len g c = rw (c.undo.ensures.slots, ← c.self.view_is)
    (length-map (undone (drop c.in-Some.start c.self.inside.trail.items) c.self.inside.slots.items) value_of
    ∙ length-undone (drop c.in-Some.start c.self.inside.trail.items) c.self.inside.slots.items ∙ sym (length-map c.self.inside.slots.items value_of))
