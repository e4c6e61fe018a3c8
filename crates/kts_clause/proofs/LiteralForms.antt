-- Which literals, and which clauses, each variant of formula gives.
use Rattle.std.proofs.Common.{◌≡◌, refl, sym, ap, subst, ℕ, List, [], ◌∷◌, ◌++◌, Bool, true, false, not}
use Rattle.std.specs.Prelude.{flat_map}
use Rattle.kts_spec.specs.declared.tree.Term.{Term}
use Rattle.kts_spec.specs.declared.tree.Formula.{Formula, roll-Formula}
use Rattle.kts_spec.specs.declared.tree.Formula.TheVariants as formula
use Rattle.kts_spec.specs.declared.tree.Formula.TheOpen as one
use Rattle.kts_spec.specs.declared.tree.Formula.TheFolds.{ind-Formula, map-Formula}
use Rattle.kts_clause.specs.Clauses.{Parts, one_clause, literals_of, disjunctions}
use Rattle.kts_clause.specs.declared.literal.Literal.{Literal}
use Rattle.kts_clause.proofs.PartRolls.{parts-roll}
use Rattle.kts_clause.proofs.PartEquations.{parts_of-And, parts_of-Or, parts_of-Not, parts_of-Implies, parts_of-Forall}

abbrev pub plus : Parts → List Literal
plus p = p.plus

abbrev pub minus : Parts → List Literal
minus p = p.minus

pub minus-And : (parts : List Formula) → literals_of true (formula.And parts) ≡ flat_map (literals_of true) parts
minus-And parts = ap minus (parts_of-And parts)

pub plus-Or : (parts : List Formula) → literals_of false (formula.Or parts) ≡ flat_map (literals_of false) parts
plus-Or parts = ap plus (parts_of-Or parts)

pub of-Not : (negative : Bool) (p : Formula) → literals_of negative (formula.Not p) ≡ literals_of (not negative) p
of-Not true p = ap minus (parts_of-Not p)
of-Not false p = ap plus (parts_of-Not p)

pub plus-Implies : (p q : Formula) → literals_of false (formula.Implies p q) ≡ literals_of true p ++ literals_of false q
plus-Implies p q = ap plus (parts_of-Implies p q)

-- a formula as the only literal
abbrev pub only : Bool → Formula → List Literal
only negative p = record { negative = negative; formula = p } ∷ []

pub plus-And : (parts : List Formula) → literals_of false (formula.And parts) ≡ only false (formula.And parts)
plus-And parts = ap plus (parts_of-And parts)

pub minus-Or : (parts : List Formula) → literals_of true (formula.Or parts) ≡ only true (formula.Or parts)
minus-Or parts = ap minus (parts_of-Or parts)

pub minus-Implies : (p q : Formula) → literals_of true (formula.Implies p q) ≡ only true (formula.Implies p q)
minus-Implies p q = ap minus (parts_of-Implies p q)

-- what holds of each variant of formula holds of all
pub formula_cases : (P : Formula → Type 0) → ((x : one.Formula-F Formula Term) → P (roll-Formula x)) → (p : Formula) → P p
formula_cases P f p =
    ind-Formula P (λ _. Unit {0}) (λ x y e. subst (λ z. P (roll-Formula z)) e (f (map-Formula _ _ Formula Term (λ p. p.0) (λ p. p.0) y)))
    (λ x y e. tt) p

-- neither the formula nor its negation is taken apart
pub record IsWhole (p : Formula) : Type 0 where
  pub no_and : (parts : List Formula) → p ≡ formula.And parts → ⊥
  pub no_or : (parts : List Formula) → p ≡ formula.Or parts → ⊥
  pub no_not : (q : Formula) → p ≡ formula.Not q → ⊥
  pub no_implies : (q r : Formula) → p ≡ formula.Implies q r → ⊥

whole_step : (x : one.Formula-F Formula Term) (negative : Bool) → IsWhole (roll-Formula x) → literals_of negative (roll-Formula x) ≡ only negative (roll-Formula x)
whole_step (one.And ps) negative w = absurd (w.no_and ps (formula.rolls-And ps))
whole_step (one.Or ps) negative w = absurd (w.no_or ps (formula.rolls-Or ps))
whole_step (one.Not p) negative w = absurd (w.no_not p (formula.rolls-Not p))
whole_step (one.Implies p q) negative w = absurd (w.no_implies p q (formula.rolls-Implies p q))
whole_step x true w = ap minus (parts-roll x)
whole_step x false w = ap plus (parts-roll x)

-- then it is the only literal
pub whole_is : (negative : Bool) (p : Formula) → IsWhole p → literals_of negative p ≡ only negative p
whole_is negative p = formula_cases (λ q. IsWhole q → literals_of negative q ≡ only negative q) (λ x w. whole_step x negative w) p

pub disjunctions-And : (parts : List Formula) (prefix : List ℕ) → disjunctions (formula.And parts) prefix ≡ flat_map (λ p. disjunctions p prefix) parts
disjunctions-And parts prefix = ap (λ (p : Parts). p.clauses prefix) (parts_of-And parts)

pub disjunctions-Forall : (indexes : List ℕ) (p : Formula) (prefix : List ℕ) → disjunctions (formula.Forall indexes p) prefix ≡ disjunctions p (prefix ++ indexes)
disjunctions-Forall indexes p prefix = ap (λ (p : Parts). p.clauses prefix) (parts_of-Forall indexes p)

-- neither a conjunction nor for all members
pub record IsOneClause (p : Formula) : Type 0 where
  pub no_and : (parts : List Formula) → p ≡ formula.And parts → ⊥
  pub no_forall : (indexes : List ℕ) (q : Formula) → p ≡ formula.Forall indexes q → ⊥

one_step : (x : one.Formula-F Formula Term) (prefix : List ℕ) → IsOneClause (roll-Formula x) → disjunctions (roll-Formula x) prefix ≡ one_clause (literals_of false (roll-Formula x)) prefix
one_step (one.And ps) prefix w = absurd (w.no_and ps (formula.rolls-And ps))
one_step (one.Forall indexes p) prefix w = absurd (w.no_forall indexes p (formula.rolls-Forall indexes p))
one_step x prefix w = subst (λ (p : Parts). p.clauses prefix ≡ one_clause p.plus prefix) (sym (parts-roll x)) refl

-- any other formula is one clause
pub one_is : (p : Formula) (prefix : List ℕ) → IsOneClause p → disjunctions p prefix ≡ one_clause (literals_of false p) prefix
one_is p prefix = formula_cases (λ q. IsOneClause q → disjunctions q prefix ≡ one_clause (literals_of false q) prefix) (λ x w. one_step x prefix w) p
