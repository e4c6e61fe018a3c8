use Rattle.std.proofs.Common.{◌≡◌, drop}
use Rattle.kts_base.specs.Memory.{stop_of}
use Rattle.kts_base.proofs.mem_sink.stop_of.Given as goal

-- what is left to look at has the answer
abbrev pub invariant-loop-entry : goal.invariant-loop-entry
invariant-loop-entry l = stop_of l.failing l.number ≡ stop_of (drop l.entry-index l.failing) l.number
