-- The filters of a specification: each clause that no head carries pushes its truth, and they have the length that is counted.
use Rattle.std.proofs.Common.{◌≡◌, ℕ, ◌+◌, inl, inr, List, [], ◌∷◌, length, length-append, Bool, true, false, cond, refl, sym, ap, ◌∙◌, subst, arith}
use Rattle.std.specs.Prelude.{filter}
use Rattle.kts_abs.proofs.Listed.{In}
use Rattle.kts_base.specs.Limits.{generated_stack}
use Rattle.kts_clause.specs.declared.clause.Clause.{Clause}
use Rattle.kts_clause.specs.ClauseFacts.{ClauseFacts, LiteralFacts}
use Rattle.kts_code.specs.declared.instructions.Instr.TheVariants.{Test}
use Rattle.kts_code.specs.Setups.{Setup, world_in}
use Rattle.kts_emit.specs.BodyRuns.{HasDeclarations}
use Rattle.kts_emit.specs.ClauseCode.{clause_code, clause_weight, length_of_clause, clause_places}
use Rattle.kts_emit.specs.Pushes.{IsReady}
use Rattle.kts_emit.proofs.ClausePushes.{clauses_push_truth}
use Rattle.kts_emit.proofs.FlatAddends.{all_also}
use Rattle.kts_emit.proofs.LongClauses.{clauses_have_length}
use Rattle.kts_emit.proofs.SpecConstraints.{typed_same}
use Rattle.kts_plan.specs.Plans.{clauses_of_spec, is_residual}
use Rattle.kts_plan.proofs.AskedCells.{clauses_fit}
use Rattle.kts_spec.specs.declared.schema.Schema.{Schema}
use Rattle.kts_spec.specs.declared.spec.Spec.{Spec}
use Rattle.kts_spec.specs.Data.{is_valid}
use Rattle.kts_spec.specs.Related.{AllOf}
use Rattle.kts_spec.specs.Schemas.{is_prefix}
use Rattle.kts_spec.specs.Worlds.{size_of}
use Rattle.kts_search.specs.ClauseFilters.{filters_by, weight_by, PushesClause}
use Rattle.kts_search.specs.WholeScheme.{residuals_in}

-- what holds of each item holds of those that are kept
all_kept : {X : Type 0} (P : X → Type 0) (p : X → Bool) (xs : List X) → ((x : X) → In x xs → P x) → AllOf P (filter p xs)
all_kept P p [] f = tt
all_kept P p (x ∷ xs) f = by (p x) (f x (inl refl)) (all_kept P p xs (λ y i. f y (inr i)))
  where
    by : (b : Bool) → P x → AllOf P (filter p xs) → AllOf P (cond b (x ∷ filter p xs) (filter p xs))
    by true h rest = (h, rest)
    by false h rest = rest

-- the clauses of a specification are well typed in each schema with its declarations
pub facts_in : (spec : Spec) (schema : Schema) → HasDeclarations spec schema → (c : Clause) → ClauseFacts spec.schema c → ClauseFacts schema c
facts_in spec schema same c facts = record {
  prefix = subst (λ (indexes : List (List ℕ)). is_prefix (length indexes) c.prefix ≡ true) (sym same.indexes) facts.prefix;
  literals =
      all_also (LiteralFacts spec.schema c.prefix) (LiteralFacts schema c.prefix) c.literals
      (λ l f. record { typed = typed_same schema spec.schema same.indexes same.givens same.choices l.formula c.prefix ∙ f.typed; limited = f.limited })
      facts.literals;
}

pub residuals_fit : (spec : Spec) (schema : Schema) → HasDeclarations spec schema → AllOf (ClauseFacts schema) (residuals_in spec)
residuals_fit spec schema same =
    all_kept (ClauseFacts schema) is_residual (clauses_of_spec spec) (λ c i. facts_in spec schema same c (clauses_fit spec c i))

clause_pushes : (m : Setup) (c : Clause) → is_valid m.code.schema m.inst ≡ true → m.code.stack ≡ generated_stack → ClauseFacts m.code.schema c
    → PushesClause m (clause_code c) (clause_weight (size_of (world_in m)) c) c
clause_pushes m c valid places facts space s is_space going within empty registers there =
    let none : length s.core.stack ≡ 0 = ap (λ l. length l) empty in
    let ready : IsReady m space [] [] clause_places s =
    record { going = going; within = within; registers = registers; variables = tt; room = omega arith } in
    clauses_push_truth m space valid is_space c s facts ready there

pub residuals_push : (spec : Spec) (m : Setup) → HasDeclarations spec m.code.schema → is_valid m.code.schema m.inst ≡ true → m.code.stack ≡ generated_stack
    → AllOf (λ c. PushesClause m (clause_code c) (clause_weight (size_of (world_in m)) c) c) (residuals_in spec)
residuals_push spec m same valid places =
    all_also (ClauseFacts m.code.schema) (λ c. PushesClause m (clause_code c) (clause_weight (size_of (world_in m)) c) c) (residuals_in spec)
    (λ c facts. clause_pushes m c valid places facts) (residuals_fit spec m.code.schema same)

-- wherever the filters stand, and wherever they leave to
pub filters_long : (cs : List Clause) (place to : ℕ) → length (filters_by clause_code cs place to) ≡ weight_by length_of_clause cs
filters_long [] place to = refl
filters_long (c ∷ cs) place to =
    let code = clause_code c place 0 in
    let next = place + length code + 1 in
    let long = clauses_have_length c place 0 in
    let rest = filters_long cs next to in
    omega (arith, length-append code (Test to ∷ filters_by clause_code cs next to))
