-- A specification's schema with the prefixes of its constraints as tasks is a schema.
use Rattle.std.proofs.Common.{◌≡◌, refl, sym, ap, ◌∙◌, ℕ, zero, suc, ◌+◌, ◌^◌, List, [], ◌∷◌, length, map, Bool, true, arith}
use Rattle.std.specs.Prelude.{flat_map, slice_index_or}
use Rattle.std.specs.List.{enumerate_from, list_all}
use Rattle.std.proofs.lemmas.Bool.{and_parts, and_from, lt-ltb}
use Rattle.std.proofs.lemmas.List.{length-map}
use Rattle.std.proofs.lemmas.List.Folds.{list_all-append}
use Rattle.kts_spec.proofs.Conditions.{spec_facts}
use Rattle.kts_spec.specs.Related.{AllOf}
use Rattle.kts_spec.specs.Schemas.{is_prefix, is_schema}
use Rattle.kts_spec.specs.Specifications.{is_formula}
use Rattle.kts_spec.specs.declared.declarations.Decl.{Decl}
use Rattle.kts_spec.specs.declared.declarations.Family.{Family}
use Rattle.kts_spec.specs.declared.schema.Schema.{Schema}
use Rattle.kts_spec.specs.declared.spec.Spec.{Spec}
use Rattle.kts_spec.specs.declared.tree.Formula.{Formula}
use Rattle.kts_clause.proofs.ClauseKinds.{clauses_typed}
use Rattle.kts_clause.specs.ClauseFacts.{ClauseFacts}
use Rattle.kts_clause.specs.Clauses.{clauses_of}
use Rattle.kts_clause.specs.declared.clause.Clause.{Clause}
use Rattle.kts_plan.specs.Constraints.{Constraint, no_clause, constraint_of, prefixes_of}
use Rattle.kts_plan.specs.Plans.{IsPlanOf, clauses_of_spec, definites_of}
use Rattle.kts_plan.specs.declared.definite.Definite.{Definite}
use Rattle.kts_plan.specs.declared.plan.Plan.{Plan}
use Rattle.kts_classify.specs.TaskSchemas.{prefix_in}
use Rattle.kts_classify.proofs.PlanCounts.{count_definites, few_trees}

module _ (schema : Schema) where
  abbrev is_short : List ℕ → Bool
  is_short = is_prefix (length schema.indexes)

  abbrev has_prefix : Clause → Bool
  has_prefix c = is_short c.prefix

  all_clauses : (cs : List Clause) → AllOf (ClauseFacts schema) cs → list_all has_prefix cs ≡ true
  all_clauses [] h = refl
  all_clauses (c ∷ cs) h = and_from _ _ h.0.prefix (all_clauses cs h.1)

  from_formulas : (formulas : List (List ℕ × Formula)) (k : ℕ) → list_all (λ f. is_formula schema f.1) formulas ≡ true
      → list_all has_prefix (flat_map (λ (numbered : ℕ × Formula). clauses_of numbered.0 numbered.1) (enumerate_from k (map (λ f. f.1) formulas))) ≡ true
  from_formulas [] k h = refl
  from_formulas (f ∷ formulas) k h =
      let both = and_parts (is_formula schema f.1) (list_all (λ f. is_formula schema f.1) formulas) h in
      list_all-append has_prefix (clauses_of k f.1) (flat_map (λ (numbered : ℕ × Formula). clauses_of numbered.0 numbered.1) (enumerate_from (k + 1) (map (λ f. f.1) formulas)))
      ∙ and_from _ _ (all_clauses (clauses_of k f.1) (clauses_typed k f.1 schema both.0)) (from_formulas formulas (k + 1) both.1)

  at_any : (cs : List Clause) (k : ℕ) → list_all has_prefix cs ≡ true → has_prefix (slice_index_or cs k no_clause) ≡ true
  at_any [] k h = refl
  at_any (c ∷ cs) zero h = (and_parts (has_prefix c) (list_all has_prefix cs) h).0
  at_any (c ∷ cs) (suc k) h = at_any cs k (and_parts (has_prefix c) (list_all has_prefix cs) h).1

  all_prefixes : (cs : List Clause) (ds : List Definite) → list_all has_prefix cs ≡ true → list_all is_short (map (λ (c : Constraint). c.prefix) (map (constraint_of cs) ds)) ≡ true
  all_prefixes cs [] h = refl
  all_prefixes cs (d ∷ ds) h = and_from _ _ (at_any cs d.clause h) (all_prefixes cs ds h)

-- with the declarations of the specification
own_schema : (spec : Spec) → is_schema spec.schema.name spec.schema.decls spec.schema.indexes spec.schema.givens spec.schema.choices (prefixes_of (clauses_of_spec spec)) ≡ true
unfolding is_schema
own_schema spec =
    let s = spec.schema in
    let cs = clauses_of_spec spec in
    let front = (and_parts _ _ (and_parts _ _ s.is_schema).0).0 in
    let short = from_formulas s spec.formulas 0 (spec_facts spec).formulas in
    let outer = length-map (map (constraint_of cs) (definites_of cs)) (λ (c : Constraint). c.prefix) in
    let inner = length-map (definites_of cs) (constraint_of cs) in
    let count = count_definites cs 0 in
    let trees = few_trees spec in
    and_from _ _ (and_from _ _ front (lt-ltb (length (prefixes_of cs)) (2 ^ 32) (omega (arith, outer, inner, count, trees)))) (all_prefixes s cs (definites_of cs) short)

-- with copies of them
pub copied_schema : (spec : Spec) (name : List ℕ) (decls : List Decl) (indexes : List (List ℕ)) (givens choices : List Family) (tasks : List (List ℕ))
    → name ≡ spec.schema.name → decls ≡ spec.schema.decls → indexes ≡ spec.schema.indexes → givens ≡ spec.schema.givens → choices ≡ spec.schema.choices → tasks ≡ prefixes_of (clauses_of_spec spec)
    → is_schema name decls indexes givens choices tasks ≡ true
copied_schema spec name decls indexes givens choices tasks e1 e2 e3 e4 e5 e6 =
    let s = spec.schema in
    ap (λ x. is_schema x decls indexes givens choices tasks) e1 ∙ ap (λ x. is_schema s.name x indexes givens choices tasks) e2 ∙ ap (λ x. is_schema s.name s.decls x givens choices tasks) e3
    ∙ ap (λ x. is_schema s.name s.decls s.indexes x choices tasks) e4 ∙ ap (λ x. is_schema s.name s.decls s.indexes s.givens x tasks) e5 ∙ ap (λ x. is_schema s.name s.decls s.indexes s.givens s.choices x) e6
    ∙ own_schema spec

maps : {X Y Z : Type 0} (g : Y → Z) (f : X → Y) (xs : List X) → map g (map f xs) ≡ map (λ x. g (f x)) xs
maps g f [] = refl
maps g f (x ∷ xs) = ap (λ l. g (f x) ∷ l) (maps g f xs)

-- the prefixes of the plan's constraints
pub tasks_are : (spec : Spec) (plan : Plan) → IsPlanOf spec plan → map (prefix_in plan.clauses) plan.definites ≡ prefixes_of (clauses_of_spec spec)
tasks_are spec plan h =
    let cs = clauses_of_spec spec in
    ap (λ l. map (prefix_in l) plan.definites) h.clauses ∙ ap (map (prefix_in cs)) h.definites ∙ sym (maps (λ (c : Constraint). c.prefix) (constraint_of cs) (definites_of cs))
