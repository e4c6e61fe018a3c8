use Rattle.std.proofs.Common.{◌≡◌, drop}
use Rattle.kts_base.specs.Memory.{held_in}
use Rattle.kts_base.proofs.mem_files.find.Given as goal

-- what is left to look at has the answer
abbrev pub invariant-loop-entry : goal.invariant-loop-entry
invariant-loop-entry l = held_in l.entries l.path ≡ held_in (drop l.entry-index l.entries) l.path
