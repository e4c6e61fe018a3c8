use Rattle.std.proofs.Common.{◌≡◌, Bool, map, take}
use Rattle.std.specs.Prelude.{flat_map}
use Rattle.kts_spec.specs.Reads.{reads_of}
use Rattle.kts_spec.specs.declared.tree.Term.{Term}
use Rattle.kts_classify.specs.PlanPatterns.{access_pattern, extended}
use Rattle.kts_classify.proofs.pattern_list.add_addends.Given as goal

-- the patterns of the terms so far are appended
abbrev pub invariant-loop-term : goal.invariant-loop-term
invariant-loop-term l = l.patterns ≡ extended l.reader.first l.initial.patterns (flat_map (λ (x : Bool × Term). map (access_pattern l.reader.definite l.reader.variables) (reads_of x.1)) (take l.term-index l.terms))
