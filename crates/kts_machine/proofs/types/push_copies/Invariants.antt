use Rattle.std.proofs.Common.{◌≡◌, ◌++◌, replicate}
use Rattle.kts_machine.proofs.types.push_copies.Given as goal

abbrev pub invariant-loop : goal.invariant-loop
invariant-loop g l = l.cells ≡ l.initial.cells ++ replicate l.counter l.cell
