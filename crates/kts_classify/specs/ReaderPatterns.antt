-- The patterns of accesses, as they are gone through.
use Rattle.std.specs.Prelude.{List, map}
use Rattle.kts_classify.specs.PlanPatterns.{access_pattern, extended}
use Rattle.kts_classify.specs.declared.accesses.Reader.{Reader}
use Rattle.kts_index.specs.declared.pattern.Pattern.{Pattern}
use Rattle.kts_spec.specs.Reads.{Access}

-- patterns with those of further accesses of a constraint
abbrev pub with_reads : Reader → List Pattern → List Access → List Pattern
with_reads reader patterns accesses = extended reader.first patterns (map (access_pattern reader.definite reader.variables) accesses)
