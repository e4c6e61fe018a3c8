use Rattle.std.proofs.Common.{◌≡◌, take, drop}
use Rattle.kts_read.specs.Lines.{prepend, split}
use Rattle.kts_read.proofs.lines.split_once.Given as goal

abbrev pub invariant-loop-i : goal.invariant-loop-i
invariant-loop-i l = split l.at l.bytes ≡ prepend (take l.i l.bytes) (split l.at (drop l.i l.bytes))
