use Rattle.std.proofs.Common.{◌≡◌, length}
use Rattle.kts_machine.proofs.machine.opening.zeros.Given as goal

abbrev pub invariant-loop : goal.invariant-loop
invariant-loop l = length l.values.items ≡ l.counter
