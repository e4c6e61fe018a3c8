use Rattle.std.proofs.Common.{◌≡◌, false, replicate}
use Rattle.kts_machine.proofs.queue.unmarked.Given as goal

abbrev pub invariant-loop : goal.invariant-loop
invariant-loop l = l.marks.items ≡ replicate l.counter false
