use Rattle.std.proofs.Common.{◌≡◌, ◌++◌, map, take}
use Rattle.kts_classify.specs.SignedTerms.{addend_of, signed_as}
use Rattle.kts_classify.proofs.sum_heads.append_terms.Given as goal

-- the terms so far are appended
abbrev pub invariant-loop-minus : goal.invariant-loop-minus
invariant-loop-minus l = l.terms ≡ l.initial.terms ++ map (λ t. signed_as l.turned (addend_of t.0 t.1.now)) (take l.minus-index l.sum)
