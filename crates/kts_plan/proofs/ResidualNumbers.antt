-- The residual clauses are those of the plan's numbers.
use Rattle.std.proofs.Common.{◌≡◌, refl, sym, ap, ◌∙◌, ⊎_elim, ℕ, suc, ◌+◌, List, [], ◌∷◌, map, filter, Bool, true, false, Some, arith}
use Rattle.std.specs.Prelude.{slice_get}
use Rattle.std.specs.List.{enumerate_from}
use Rattle.std.proofs.lemmas.Bool.{cases_Bool}
use Rattle.std.proofs.lemmas.Option.{get_or_from_slice_get}
use Rattle.kts_clause.specs.declared.clause.Clause.{Clause}
use Rattle.kts_plan.specs.Constraints.{no_clause, clause_at}
use Rattle.kts_plan.specs.Plans.{is_residual}
use Rattle.kts_plan.specs.SolutionLaws.{ResidualsAreNumbered}

abbrev first : ℕ × Clause → ℕ
first p = p.0

abbrev is_left : ℕ × Clause → Bool
is_left p = is_residual p.1

numbers_from : (clauses : List Clause) (a : ℕ) (cs : List Clause) → ((i : ℕ) (c : Clause) → slice_get cs i ≡ Some c → clause_at clauses (a + i) ≡ c)
    → map (clause_at clauses) (map first (filter is_left (enumerate_from a cs))) ≡ filter is_residual cs
numbers_from clauses a [] h = refl
numbers_from clauses a (c ∷ cs) h =
    let z : a + 0 ≡ a = omega arith in
    let here : clause_at clauses a ≡ c = ap (clause_at clauses) (sym z) ∙ h 0 c refl in
    let rest = numbers_from clauses (a + 1) cs (λ i d e. let n : a + 1 + i ≡ a + suc i = omega arith in ap (clause_at clauses) n ∙ h (suc i) d e) in
    ⊎_elim
    (λ (e : is_residual c ≡ true). rw e (ap (λ d. d ∷ map (clause_at clauses) (map first (filter is_left (enumerate_from (a + 1) cs)))) here ∙ ap (λ l. c ∷ l) rest))
    (λ (e : is_residual c ≡ false). rw e rest)
    (cases_Bool (is_residual c))

pub residuals_are_numbered : ResidualsAreNumbered
residuals_are_numbered clauses = numbers_from clauses 0 clauses (λ i c e. let z : 0 + i ≡ i = omega arith in ap (clause_at clauses) z ∙ get_or_from_slice_get clauses i c no_clause e)
