use Rattle.std.proofs.Common.{◌≡◌, take}
use Rattle.std.specs.Prelude.{flat_map}
use Rattle.std.specs.List.{enumerate_from}
use Rattle.kts_plan.specs.Plans.{definites_of_clause}
use Rattle.kts_classify.proofs.ResidualNumbers.{residual_number}
use Rattle.kts_classify.proofs.classification.classify.Given as goal

-- the constraints of the clauses so far, and the numbers of those without
abbrev pub invariant-loop-number : goal.invariant-loop-number
invariant-loop-number l = record {
  definites : l.definites ≡ flat_map definites_of_clause (take l.number (enumerate_from 0 l.clause-items));
  residuals : l.residuals ≡ flat_map residual_number (take l.number (enumerate_from 0 l.clause-items));
}
