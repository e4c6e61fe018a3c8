use Rattle.std.proofs.Common.{◌≡◌, ◌++◌, take}
use Rattle.std.specs.Prelude.{flat_map}
use Rattle.std.specs.List.{enumerate_from}
use Rattle.kts_plan.specs.Plans.{definites_of_literal}
use Rattle.kts_classify.proofs.classification.add_definites.Given as goal

-- the constraints of the literals so far are appended
abbrev pub invariant-loop-k : goal.invariant-loop-k
invariant-loop-k l = l.definites ≡ l.initial.definites ++ flat_map (definites_of_literal l.number) (take l.k (enumerate_from 0 l.clause.literals))
