use Rattle.std.proofs.Common.{rules, sym}
use Rattle.kts_machine.proofs.QueueMarks.{IsMarked-pop, first_below}
use Rattle.kts_machine.proofs.queue.Queue.pop.Goals as goal

pub index_mut-requires : goal.index_mut-requires
index_mut-requires c =
    let below = first_below c.self.inside.marks.items c.self.inside.ring.items c.self.inside.ring.capacity c.in-Some.task c.self.invariant (sym c.in-Some.ensures.value) in search (rules, below)

pub invariant_of-self : goal.invariant_of-self
invariant_of-self c = rw c.in-Some.ensures.items
    (IsMarked-pop c.self.inside.marks.items c.self.inside.ring.items c.self.inside.ring.capacity c.in-Some.task c.self.invariant (sym c.in-Some.ensures.value))
