use Rattle.std.proofs.Common.{◌≡◌, ℕ, take}
use Rattle.std.specs.Prelude.{flat_map}
use Rattle.std.specs.List.{enumerate_from}
use Rattle.kts_clause.specs.Clauses.{clauses_of}
use Rattle.kts_spec.specs.Answers.{formulas_of}
use Rattle.kts_spec.specs.declared.tree.Formula.{Formula}
use Rattle.kts_classify.proofs.classification.clauses_of_spec.Given as goal

-- the clauses of the formulas so far
abbrev pub invariant-loop-number : goal.invariant-loop-number
invariant-loop-number l = l.clauses ≡ flat_map (λ (numbered : ℕ × Formula). clauses_of numbered.0 numbered.1) (take l.number (enumerate_from 0 (formulas_of l.spec)))
