-- A formula is as true as its clauses in every space.
use Rattle.std.specs.Prelude.{◌≡◌, ℕ, List}
use Rattle.kts_abs.specs.InSpace.{in_space, truth_in}
use Rattle.kts_abs.specs.Values.{Abs}
use Rattle.kts_spec.specs.Worlds.{World, size_of}
use Rattle.kts_spec.specs.declared.tree.Formula.{Formula}
use Rattle.kts_clause.specs.Clauses.{clauses_of}
use Rattle.kts_clause.specs.ClauseTruth.{all_true}

abbrev pub ClausesHoldInSpaces : Type 0
ClausesHoldInSpaces = (number : ℕ) (p : Formula) (w : World) (space : List Abs) (vars : List ℕ)
    → all_true (size_of w) (in_space w space) (clauses_of number p) vars ≡ truth_in w space p vars
