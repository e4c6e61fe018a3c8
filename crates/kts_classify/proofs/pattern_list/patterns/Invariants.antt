use Rattle.std.proofs.Common.{◌≡◌, take}
use Rattle.std.specs.Prelude.{flat_map}
use Rattle.std.specs.List.{enumerate_from}
use Rattle.kts_classify.specs.PlanPatterns.{constraint_patterns, constraints_in}
use Rattle.kts_classify.proofs.pattern_list.patterns.Given as goal

-- the patterns of the constraints so far
abbrev pub invariant-loop-number : goal.invariant-loop-number
invariant-loop-number l = l.patterns ≡ flat_map constraint_patterns (take l.number (enumerate_from 0 (constraints_in l.plan)))
