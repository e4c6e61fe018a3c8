use Rattle.std.proofs.Common.{◌≡◌, ◌++◌, take}
use Rattle.kts_emit.proofs.appends.append_some.Given as goal

abbrev pub invariant-loop-instr : goal.invariant-loop-instr
invariant-loop-instr l = l.list ≡ l.initial.list ++ take l.instr-index l.instrs
