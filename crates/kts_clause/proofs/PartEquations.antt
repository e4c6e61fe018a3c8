-- The literals and clauses of each variant of formula, as one equation.
use Rattle.std.proofs.Common.{◌≡◌, refl, sym, ap, ◌∙◌, ℕ, List, [], ◌∷◌, ◌++◌}
use Rattle.std.specs.Prelude.{flat_map}
use Rattle.std.proofs.Math.Path.{fun_ext}
use Rattle.kts_spec.specs.declared.tree.Comparison.{Comparison}
use Rattle.kts_spec.specs.declared.tree.Term.{Term}
use Rattle.kts_spec.specs.declared.tree.Formula.{Formula}
use Rattle.kts_spec.specs.declared.tree.Formula.TheVariants as formula
use Rattle.kts_spec.specs.declared.tree.Formula.TheOpen as one
use Rattle.kts_clause.specs.Clauses.{Parts, FormulaPart, positive, negated, together, alone, parts_of}
use Rattle.kts_clause.proofs.PartRolls.{with_each, parts-roll, self_is}

of_each : {X : Type 0} (pick : Parts → List X) (ps : List Formula) → flat_map (λ (p : FormulaPart). pick p.1) (with_each ps) ≡ flat_map (λ p. pick (parts_of p)) ps
of_each pick [] = refl
of_each pick (p ∷ ps) = ap (λ l. pick (parts_of p) ++ l) (of_each pick ps)

pub parts_of-Compare : (c : Comparison) (a b : Term) → parts_of (formula.Compare c a b) ≡ alone (formula.Compare c a b)
parts_of-Compare c a b = ap parts_of (sym (formula.rolls-Compare c a b)) ∙ parts-roll (one.Compare c a b) ∙ ap alone (formula.rolls-Compare c a b)

pub parts_of-And : (ps : List Formula) → parts_of (formula.And ps) ≡ record { plus = positive (formula.And ps); minus = flat_map (λ p. (parts_of p).minus) ps; clauses = λ prefix. flat_map (λ p. (parts_of p).clauses prefix) ps }
parts_of-And ps =
    ap parts_of (sym (formula.rolls-And ps)) ∙ parts-roll (one.And ps)
    ∙ ap (λ z. record { plus = positive z; minus = flat_map (λ (p : FormulaPart). p.1.minus) (with_each ps); clauses = λ prefix. flat_map (λ (p : FormulaPart). p.1.clauses prefix) (with_each ps) }) (self_is (one.And ps) ∙ formula.rolls-And ps)
    ∙ ap (λ l. record { plus = positive (formula.And ps); minus = l; clauses = λ prefix. flat_map (λ (p : FormulaPart). p.1.clauses prefix) (with_each ps) }) (of_each (λ p. p.minus) ps)
    ∙ ap (λ f. record { plus = positive (formula.And ps); minus = flat_map (λ p. (parts_of p).minus) ps; clauses = f }) (fun_ext (λ prefix. of_each (λ p. p.clauses prefix) ps))

pub parts_of-Or : (ps : List Formula) → parts_of (formula.Or ps) ≡ together (flat_map (λ p. (parts_of p).plus) ps) (negated (formula.Or ps))
parts_of-Or ps =
    ap parts_of (sym (formula.rolls-Or ps)) ∙ parts-roll (one.Or ps)
    ∙ ap (λ z. together (flat_map (λ (p : FormulaPart). p.1.plus) (with_each ps)) (negated z)) (self_is (one.Or ps) ∙ formula.rolls-Or ps)
    ∙ ap (λ l. together l (negated (formula.Or ps))) (of_each (λ p. p.plus) ps)

pub parts_of-Not : (p : Formula) → parts_of (formula.Not p) ≡ together (parts_of p).minus ((parts_of p).plus)
parts_of-Not p = ap parts_of (sym (formula.rolls-Not p)) ∙ parts-roll (one.Not p)

pub parts_of-Implies : (p q : Formula) → parts_of (formula.Implies p q) ≡ together ((parts_of p).minus ++ (parts_of q).plus) (negated (formula.Implies p q))
parts_of-Implies p q = ap parts_of (sym (formula.rolls-Implies p q)) ∙ parts-roll (one.Implies p q) ∙ ap (λ z. together ((parts_of p).minus ++ (parts_of q).plus) (negated z)) (formula.rolls-Implies p q)

pub parts_of-Forall : (indexes : List ℕ) (p : Formula) → parts_of (formula.Forall indexes p) ≡ record { plus = positive (formula.Forall indexes p); minus = negated (formula.Forall indexes p); clauses = λ prefix. (parts_of p).clauses (prefix ++ indexes) }
parts_of-Forall indexes p =
    ap parts_of (sym (formula.rolls-Forall indexes p)) ∙ parts-roll (one.Forall indexes p)
    ∙ ap (λ z. record { plus = positive z; minus = negated z; clauses = λ prefix. (parts_of p).clauses (prefix ++ indexes) }) (formula.rolls-Forall indexes p)

pub parts_of-Exists : (indexes : List ℕ) (p : Formula) → parts_of (formula.Exists indexes p) ≡ alone (formula.Exists indexes p)
parts_of-Exists indexes p = ap parts_of (sym (formula.rolls-Exists indexes p)) ∙ parts-roll (one.Exists indexes p) ∙ ap alone (formula.rolls-Exists indexes p)

pub ruleset clause_forms = (parts_of-Compare, parts_of-And, parts_of-Or, parts_of-Not, parts_of-Implies, parts_of-Forall, parts_of-Exists)
