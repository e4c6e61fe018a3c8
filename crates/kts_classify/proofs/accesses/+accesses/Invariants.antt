use Rattle.std.proofs.Common.{◌≡◌, map, take}
use Rattle.std.specs.Prelude.{flat_map}
use Rattle.kts_spec.specs.Reads.{reads_in, reads_of}
use Rattle.kts_classify.specs.PlanPatterns.{access_pattern, extended}
use Rattle.kts_classify.proofs.accesses.+accesses.Given as goal

-- the patterns of the parts so far are appended
abbrev pub invariant-add_terms-loop-term : goal.invariant-add_terms-loop-term
invariant-add_terms-loop-term l = l.patterns ≡ extended l.reader.first l.initial.patterns (flat_map (λ t. map (access_pattern l.reader.definite l.reader.variables) (reads_of t)) (take l.term-index l.terms))

abbrev pub invariant-add_formulas-loop-p : goal.invariant-add_formulas-loop-p
invariant-add_formulas-loop-p l = l.patterns ≡ extended l.reader.first l.initial.patterns (flat_map (λ p. map (access_pattern l.reader.definite l.reader.variables) (reads_in p)) (take l.p-index l.ps))
