use Rattle.std.proofs.Common.{length, ◌-◌, ◌≡◌, ◌+◌, ◌≤◌, drop}
use Rattle.kts_text.specs.Scan.{letters_in_front}
use Rattle.kts_text.proofs.scan.letters_from.Given as goal

abbrev pub invariant-loop-end : goal.invariant-loop-end
invariant-loop-end l = record { from : l.at ≤ l.end; within : l.end ≤ length l.bytes; count : letters_in_front (drop l.at l.bytes) ≡ (l.end - l.at) + letters_in_front (drop l.end l.bytes) }

abbrev pub decreases-loop-end : goal.decreases-loop-end
decreases-loop-end l = length l.bytes - l.end
