-- Every constraint of a specification is well typed, in each schema with its declarations.
use Rattle.std.proofs.Common.{◌≡◌, ℕ, ◌+◌, ◌≤◌, List, [], ◌∷◌, ◌++◌, length, Bool, true, ◌&&◌, nat_le, Option, None, Some, if◌then◌else◌, refl, sym, ap, ◌∙◌, subst, arith, slice_get}
use Rattle.std.specs.Prelude.{nat_lt, option_and_then}
use Rattle.std.specs.List.{list_all}
use Rattle.std.proofs.lemmas.Bool.{and_parts}
use Rattle.std.proofs.Math.Path.{fun_ext}
use Rattle.kts_base.specs.Limits.{most_variables, most_prefix, most_trees, most_depth, most_addends}
use Rattle.kts_base.proofs.Orders.{nat_le_yes}
use Rattle.kts_clause.specs.ClauseFacts.{LiteralFacts}
use Rattle.kts_plan.specs.declared.definite.Definite.{Definite}
use Rattle.kts_plan.specs.Constraints.{Constraint, constraints_of}
use Rattle.kts_plan.specs.Heads.{all_but}
use Rattle.kts_plan.specs.Plans.{clauses_of_spec}
use Rattle.kts_plan.proofs.AskedCells.{IsDefinite, definite_is, constraint_is, constraint_from, clauses_fit}
use Rattle.kts_plan.proofs.NumberedItems.{got_in, all_got, all_rest}
use Rattle.kts_spec.specs.declared.declarations.Family.{Family}
use Rattle.kts_spec.specs.declared.schema.Schema.{Schema}
use Rattle.kts_spec.specs.declared.spec.Spec.{Spec}
use Rattle.kts_spec.specs.declared.tree.Formula.{Formula}
use Rattle.kts_spec.specs.declared.tree.Formula.TheOpen as one
use Rattle.kts_spec.specs.declared.tree.Formula.TheFolds.{fold-Formula}
use Rattle.kts_spec.specs.Domain.{at_each}
use Rattle.kts_spec.specs.Ranges.{sum_over_range}
use Rattle.kts_spec.specs.Sizes.{Size, size_of_formula, keeps_limits}
use Rattle.kts_spec.specs.Typing.{Kind, whole_of, whole_within, kind_of_use, may_bind, term_kind, formula_typed, is_typed}
use Rattle.kts_emit.specs.BodyRuns.{HasDeclarations}
use Rattle.kts_emit.proofs.FlatAddends.{all_also}
use Rattle.kts_emit.proofs.TypedConstraints.{TypedLiteral, TypedConstraint}
use Rattle.kts_emit.proofs.TypedHeads.{heads_typed}

-- ---- typing depends on declarations alone

module _ (s t : Schema) (indexes : s.indexes ≡ t.indexes) (givens : s.givens ≡ t.givens) (choices : s.choices ≡ t.choices) where
  abbrev OpenTerm : Type 0
  OpenTerm = one.Term-F (List ℕ → Bool) (List ℕ → Option Kind)

  abbrev OpenFormula : Type 0
  OpenFormula = one.Formula-F (List ℕ → Bool) (List ℕ → Option Kind)

  bind_same : (scope bound : List ℕ) → may_bind s scope bound ≡ may_bind t scope bound
  bind_same scope bound =
      ap (λ (l : List (List ℕ)). nat_le 1 (length bound) && list_all (λ i. nat_lt i (length l)) bound && nat_le (length scope + length bound) most_variables) indexes

  term_same : (x : OpenTerm) (scope : List ℕ) → term_kind s x scope ≡ term_kind t x scope
  term_same (one.Number n) scope = refl
  term_same (one.Var k) scope = refl
  term_same (one.Given f args) scope = ap (λ (l : List Family). kind_of_use (slice_get l f) (at_each scope args)) givens
  term_same (one.Choice x args) scope = ap (λ (l : List Family). kind_of_use (slice_get l x) (at_each scope args)) choices
  term_same (one.Add parts) scope = refl
  term_same (one.Sub parts) scope = refl
  term_same (one.Mul parts) scope = refl
  term_same (one.Min parts) scope = refl
  term_same (one.Max parts) scope = refl
  term_same (one.Sum i p a) scope =
      ap (λ b. if b && p (scope ++ i ∷ [])
      then option_and_then (λ w. whole_within (sum_over_range w)) (option_and_then whole_of (a (scope ++ i ∷ []))) else None) (bind_same scope (i ∷ []))

  formula_same : (x : OpenFormula) (scope : List ℕ) → formula_typed s x scope ≡ formula_typed t x scope
  formula_same (one.Compare c a b) scope = refl
  formula_same (one.And parts) scope = refl
  formula_same (one.Or parts) scope = refl
  formula_same (one.Not p) scope = refl
  formula_same (one.Implies p q) scope = refl
  formula_same (one.Forall bound p) scope = ap (λ b. b && p (scope ++ bound)) (bind_same scope bound)
  formula_same (one.Exists bound p) scope = ap (λ b. b && p (scope ++ bound)) (bind_same scope bound)

  pub typed_same : (p : Formula) (scope : List ℕ) → is_typed s p scope ≡ is_typed t p scope
  unfolding is_typed
  typed_same p scope =
      let terms : term_kind s ≡ term_kind t = fun_ext (λ x. fun_ext (λ scope. term_same x scope)) in
      let formulas : formula_typed s ≡ formula_typed t = fun_ext (λ x. fun_ext (λ scope. formula_same x scope)) in
      ap (λ (f : OpenFormula → List ℕ → Bool). fold-Formula (List ℕ → Bool) (List ℕ → Option Kind) f (term_kind s) p scope) formulas
      ∙ ap (λ (g : OpenTerm → List ℕ → Option Kind). fold-Formula (List ℕ → Bool) (List ℕ → Option Kind) (formula_typed t) g p scope) terms

-- ---- sizes within the limits

record IsSmall (s : Size) : Type 0 where
  depth : s.depth ≤ most_depth
  widest : s.widest ≤ most_addends

small_from : (s : Size) → keeps_limits s ≡ true → IsSmall s
small_from s h =
    let all = and_parts (nat_le s.trees most_trees && nat_le s.depth most_depth) (nat_le s.widest most_addends) h in
    let both = and_parts (nat_le s.trees most_trees) (nat_le s.depth most_depth) all.0 in
    record { depth = nat_le_yes s.depth most_depth both.1; widest = nat_le_yes s.widest most_addends all.1 }

-- ---- constraints

module _ (spec : Spec) (schema : Schema) (same : HasDeclarations spec schema) where
  typed_here : (p : Formula) (scope : List ℕ) → is_typed spec.schema p scope ≡ true → is_typed schema p scope ≡ true
  typed_here p scope e = typed_same schema spec.schema same.indexes same.givens same.choices p scope ∙ e

  definite_typed : (d : Definite) (i : IsDefinite (clauses_of_spec spec) d)
      → TypedConstraint schema (record { prefix = i.clause.prefix; others = all_but d.literal i.clause.literals; head = d.head })
  definite_typed d i =
      let scope = i.clause.prefix in
      let facts = clauses_fit spec i.clause (got_in (clauses_of_spec spec) d.clause i.clause i.there) in
      let l = all_got (LiteralFacts spec.schema scope) i.clause.literals d.literal i.literal facts.literals i.at in
      let small = small_from (size_of_formula i.literal.formula) l.limited in
      let few = nat_le_yes (length scope) most_prefix (and_parts (nat_le (length scope) most_prefix) _ facts.prefix).0 in
      record {
        few = omega arith;
        others = all_rest (TypedLiteral schema scope) i.clause.literals d.literal
            (all_also (LiteralFacts spec.schema scope) (TypedLiteral schema scope) i.clause.literals
            (λ k q. record { typed = typed_here k.formula scope q.typed; flat = (small_from (size_of_formula k.formula) q.limited).depth }) facts.literals);
        head = heads_typed schema scope i.literal (typed_here i.literal.formula scope l.typed) small.depth small.widest d.head i.head;
      }

  pub constraint_typed : (k : ℕ) (c : Constraint) → slice_get (constraints_of (clauses_of_spec spec)) k ≡ Some c → TypedConstraint schema c
  constraint_typed k c e =
      let h = constraint_from (clauses_of_spec spec) k c e in
      let i = definite_is (clauses_of_spec spec) h.definite h.held in
      subst (TypedConstraint schema) (sym (constraint_is (clauses_of_spec spec) h.definite i) ∙ h.is) (definite_typed h.definite i)
