use Rattle.std.proofs.Common.{◌≡◌, map, take}
use Rattle.std.specs.Prelude.{flat_map}
use Rattle.kts_clause.specs.declared.literal.Literal.{Literal}
use Rattle.kts_spec.specs.Reads.{reads_in}
use Rattle.kts_classify.specs.PlanPatterns.{access_pattern, extended}
use Rattle.kts_classify.proofs.pattern_list.add_literals.Given as goal

-- the patterns of the literals so far are appended
abbrev pub invariant-loop-literal : goal.invariant-loop-literal
invariant-loop-literal l = l.patterns ≡ extended l.reader.first l.initial.patterns (flat_map (λ (x : Literal). map (access_pattern l.reader.definite l.reader.variables) (reads_in x.formula)) (take l.literal-index l.literals))
