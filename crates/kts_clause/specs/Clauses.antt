-- The literals and the clauses of a formula.
use Rattle.std.specs.Prelude.{ℕ, List, [], ◌∷◌, ◌++◌, map, flat_map, Bool, true, false}
use Rattle.std.specs.List.{enumerate_from}
use Rattle.kts_spec.specs.declared.tree.Term.{Term}
use Rattle.kts_spec.specs.declared.tree.Formula.{Formula, roll-Formula}
use Rattle.kts_spec.specs.declared.tree.Formula.TheOpen.{Formula-F, Compare, And, Or, Not, Implies, Forall, Exists}
use Rattle.kts_spec.specs.declared.tree.Formula.TheFolds.{para-Formula, map-Formula}
use Rattle.kts_clause.specs.declared.literal.Literal.{Literal}
use Rattle.kts_clause.specs.declared.clause.Clause.{Clause}

-- literals of which one is true, whatever members of these indexes the variables are
pub record Disjunction : Type 0 where
  pub prefix : List ℕ
  pub literals : List Literal

-- the literals of a formula, those of its negation, and its clauses after the variables before it
pub record Parts : Type 0 where
  pub plus : List Literal
  pub minus : List Literal
  pub clauses : List ℕ → List Disjunction

-- a formula, and a term, within a formula
abbrev pub FormulaPart : Type 0
FormulaPart = Formula × Parts

abbrev pub TermPart : Type 0
TermPart = Term × Unit {0}

-- the formula of this variant
abbrev pub self : Formula-F FormulaPart TermPart → Formula
self x = roll-Formula (map-Formula FormulaPart TermPart Formula Term (λ p. p.0) (λ t. t.0) x)

-- a formula, and its negation, as the only literal
abbrev pub positive : Formula → List Literal
positive p = record { negative = false; formula = p } ∷ []

abbrev pub negated : Formula → List Literal
negated p = record { negative = true; formula = p } ∷ []

-- one clause
abbrev pub one_clause : List Literal → List ℕ → List Disjunction
one_clause literals prefix = record { prefix = prefix; literals = literals } ∷ []

-- a formula that is one clause of these literals
abbrev pub together : List Literal → List Literal → Parts
together plus minus = record { plus = plus; minus = minus; clauses = one_clause plus }

-- a formula that is one literal
abbrev pub alone : Formula → Parts
alone p = together (positive p) (negated p)

-- what each variant of formula gives
abbrev pub parts_step : Formula-F FormulaPart TermPart → Parts
parts_step (Compare c a b) = alone (self (Compare c a b))
parts_step (And ps) = record {
  plus = positive (self (And ps));
  minus = flat_map (λ (p : FormulaPart). p.1.minus) ps;
  clauses = λ prefix. flat_map (λ (p : FormulaPart). p.1.clauses prefix) ps;
}
parts_step (Or ps) = together (flat_map (λ (p : FormulaPart). p.1.plus) ps) (negated (self (Or ps)))
parts_step (Not p) = together p.1.minus p.1.plus
parts_step (Implies p q) = together (p.1.minus ++ q.1.plus) (negated (self (Implies p q)))
parts_step (Forall indexes p) = record {
  plus = positive (self (Forall indexes p));
  minus = negated (self (Forall indexes p));
  clauses = λ prefix. p.1.clauses (prefix ++ indexes);
}
parts_step (Exists indexes p) = alone (self (Exists indexes p))

unfoldable pub parts_of : Formula → Parts
parts_of = para-Formula Parts (Unit {0}) parts_step (λ _. tt)

-- the literals of a formula, or of its negation
abbrev pub literals_of : Bool → Formula → List Literal
literals_of true p = (parts_of p).minus
literals_of false p = (parts_of p).plus

-- the clauses of a formula after the variables before it
abbrev pub disjunctions : Formula → List ℕ → List Disjunction
disjunctions p = (parts_of p).clauses

-- a clause by its number and that of its formula
abbrev pub numbered : ℕ → ℕ × Disjunction → Clause
numbered formula (k, d) = record { formula = formula; clause = k; prefix = d.prefix; literals = d.literals }

-- clauses in order, from this number on
abbrev pub numbered_from : ℕ → ℕ → List Disjunction → List Clause
numbered_from formula k ds = map (numbered formula) (enumerate_from k ds)

-- the clauses of a formula of this number
abbrev pub clauses_of : ℕ → Formula → List Clause
clauses_of formula p = numbered_from formula 0 (disjunctions p [])
