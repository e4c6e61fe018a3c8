-- Which numbers a plan may have.
use Rattle.std.specs.Prelude.{ℕ, ◌^◌, List, length, slice_get, Bool, false, ◌&&◌, nat_lt, Option, Some, None}
use Rattle.std.specs.List.{list_all}
use Rattle.kts_clause.specs.declared.clause.Clause.{Clause}
use Rattle.kts_plan.specs.declared.definite.Definite.{Definite}

-- whether there are fewer than the machine's numbers count
abbrev pub are_few : {X : Type 0} → List X → Bool
are_few xs = nat_lt (length xs) (2 ^ 32)

-- whether a number names a literal of a clause
abbrev pub names_literal : Option Clause → ℕ → Bool
names_literal None l = false
names_literal (Some c) l = nat_lt l (length c.literals)

-- whether the numbers of constraints name clauses and literals in them, and those of residual clauses name clauses
unfoldable pub is_plan : List Clause → List Definite → List ℕ → Bool
is_plan clauses definites residuals =
    are_few clauses && list_all (λ (c : Clause). are_few c.literals) clauses && are_few definites && are_few residuals
    && list_all (λ (d : Definite). names_literal (slice_get clauses d.clause) d.literal) definites
    && list_all (λ r. nat_lt r (length clauses)) residuals
