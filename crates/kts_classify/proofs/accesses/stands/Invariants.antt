use Rattle.std.proofs.Common.{◌≡◌, drop}
use Rattle.std.specs.List.{list_any}
use Rattle.kts_classify.specs.PlanPatterns.{access_pattern, is_alike}
use Rattle.kts_classify.proofs.accesses.stands.Given as goal

-- what is left to compare gives the answer
abbrev pub invariant-loop-pattern : goal.invariant-loop-pattern
invariant-loop-pattern l =
    let alike = is_alike (access_pattern l.reader.definite l.reader.variables (l.choice, l.args)) in
    list_any alike l.patterns ≡ list_any alike (drop l.pattern-index l.patterns)
