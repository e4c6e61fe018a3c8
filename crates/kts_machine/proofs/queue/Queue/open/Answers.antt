use Rattle.std.proofs.Common.{ap, arith}
use Rattle.kts_machine.proofs.QueueMarks.{IsMarked-none}
use Rattle.kts_machine.proofs.queue.Queue.open.Goals as goal

pub invariant_of-result : goal.invariant_of-result
invariant_of-result c =
    IsMarked-none c.args.count c.in-Ok.ring.capacity c.in_ok-marks.marks.items c.in-Ok.ring.items c.in_ok-marks.ensures (ap (λ b. b.items) c.in-Ok.ensures) (rw c.in-Ok.ensures (omega arith))
