-- The clauses of some formulas.
use Rattle.std.specs.Prelude.{◌≡◌, ℕ, List, [], ◌∷◌, true, false}
use Rattle.kts_spec.specs.Examples.{number, choice, given, var, released, elsewhere, start_at_zero, idle_at_zero}
use Rattle.kts_spec.specs.declared.tree.Comparison.TheVariants.{Le, Same}
use Rattle.kts_spec.specs.declared.tree.Formula.{Formula}
use Rattle.kts_spec.specs.declared.tree.Formula.TheVariants as formula
use Rattle.kts_clause.specs.Clauses.{clauses_of}
use Rattle.kts_clause.specs.declared.clause.Clause.{Clause}
use Rattle.kts_clause.specs.declared.literal.Literal.{Literal}

-- the formula of this number has these clauses
abbrev pub Gives : ℕ → Formula → List Clause → Type 0
Gives formula p cs = clauses_of formula p ≡ cs

-- a formula and its negation as a literal
abbrev pub yes : Formula → Literal
yes p = record { negative = false; formula = p }

abbrev pub no : Formula → Literal
no p = record { negative = true; formula = p }

-- clause k of a formula
abbrev pub clause : ℕ → ℕ → List ℕ → List Literal → Clause
clause formula k prefix literals = record { formula = formula; clause = k; prefix = prefix; literals = literals }

-- three formulas
abbrev pub a : Formula
a = formula.Compare Le (number 1) (number 2)

abbrev pub b : Formula
b = formula.Compare Le (number 3) (number 4)

abbrev pub c : Formula
c = formula.Compare Le (number 5) (number 6)

abbrev pub not : Formula → Formula
not = formula.Not

abbrev pub and : Formula → Formula → Formula
and p q = formula.And (p ∷ q ∷ [])

abbrev pub or : Formula → Formula → Formula
or p q = formula.Or (p ∷ q ∷ [])

abbrev pub implies : Formula → Formula → Formula
implies = formula.Implies

abbrev pub for_all : List ℕ → Formula → Formula
for_all = formula.Forall

abbrev pub for_some : List ℕ → Formula → Formula
for_some = formula.Exists

-- (= (trip r) t), and (<= (rel r) (start t))
abbrev pub on_trip : Formula
on_trip = formula.Compare Same (choice 0 (var 0 ∷ [])) (var 1)

abbrev pub after_release : Formula
after_release = formula.Compare Le (given 0 (var 0 ∷ [])) (choice 1 (var 1 ∷ []))

-- prefixes end with the variables of each `forall`; a literal is a formula that is not taken apart
pub record ClauseExamples : Type 0 where
  pub release : Gives 0 (for_all (0 ∷ 1 ∷ []) released) (clause 0 0 (0 ∷ 1 ∷ []) (no on_trip ∷ yes after_release ∷ []) ∷ [])
  pub idle : Gives 1 (for_all (1 ∷ []) idle_at_zero) (clause 1 0 (1 ∷ []) (no (for_all (0 ∷ []) elsewhere) ∷ yes start_at_zero ∷ []) ∷ [])
  pub prefixes : Gives 2 (and a (for_all (0 ∷ 1 ∷ []) (and b (for_all (2 ∷ []) c))))
      (clause 2 0 [] (yes a ∷ []) ∷ clause 2 1 (0 ∷ 1 ∷ []) (yes b ∷ []) ∷ clause 2 2 (0 ∷ 1 ∷ 2 ∷ []) (yes c ∷ []) ∷ [])
  pub implication : Gives 0 (implies (and a (not b)) c) (clause 0 0 [] (no a ∷ yes b ∷ yes c ∷ []) ∷ [])
  pub disjunction : Gives 0 (or (not (and a b)) (or c (not (not a)))) (clause 0 0 [] (no a ∷ no b ∷ yes c ∷ yes a ∷ []) ∷ [])
  pub nested_implication : Gives 0 (implies a (implies b c)) (clause 0 0 [] (no a ∷ no b ∷ yes c ∷ []) ∷ [])
  pub opaque_and : Gives 0 (or a (and b c)) (clause 0 0 [] (yes a ∷ yes (and b c) ∷ []) ∷ [])
  pub opaque_or : Gives 0 (implies (or a b) c) (clause 0 0 [] (no (or a b) ∷ yes c ∷ []) ∷ [])
  pub opaque_implication : Gives 0 (not (implies a b)) (clause 0 0 [] (no (implies a b) ∷ []) ∷ [])
  pub opaque_for_all : Gives 0 (not (for_all (0 ∷ []) a)) (clause 0 0 [] (no (for_all (0 ∷ []) a) ∷ []) ∷ [])
  pub opaque_for_some : Gives 0 (or (for_some (0 ∷ []) a) b) (clause 0 0 [] (yes (for_some (0 ∷ []) a) ∷ yes b ∷ []) ∷ [])
