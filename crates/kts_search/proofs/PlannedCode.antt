-- The parts that a plan gives are those of the whole code of its specification.
use Rattle.std.proofs.Common.{◌≡◌, ℕ, zero, suc, ◌+◌, ◌-◌, ◌^◌, ◌<◌, ◌≤◌, inl, inr, min, List, [], ◌∷◌, ◌++◌, length, map, get_or, drop, append_assoc, length-append, Option, Some, None, Bool, true, false, refl, sym, ap, ◌∙◌, subst, arith}
use Rattle.std.specs.Prelude.{nat_lt, flat_map, option_and_then}
use Rattle.std.specs.List.{enumerate_from, list_all}
use Rattle.std.proofs.lemmas.Bool.{and_parts, ltb-true}
use Rattle.std.proofs.lemmas.List.{drop_more}
use Rattle.std.proofs.Math.Bool.{Bool-set}
use Rattle.kts_abs.proofs.Listed.{In}
use Rattle.kts_base.specs.Limits.{most_instructions, most_variables, generated_stack}
use Rattle.kts_classify.specs.PlanPatterns.{constraint_patterns, patterns_of}
use Rattle.kts_classify.specs.TaskSchemas.{IsTaskSchema}
use Rattle.kts_classify.proofs.PlanCounts.{all_at}
use Rattle.kts_classify.proofs.PlanFacts.{own_item, is_named}
use Rattle.kts_clause.specs.declared.clause.Clause.{Clause}
use Rattle.kts_code.specs.declared.code.Code.{Code}
use Rattle.kts_code.specs.declared.instructions.Instr.{Instr}
use Rattle.kts_code.specs.WellFormed.{is_code}
use Rattle.kts_emit.specs.Bodies.{body_code}
use Rattle.kts_emit.specs.BodyRuns.{bodies_code, entries_from}
use Rattle.kts_emit.specs.BodyWeights.{length_of_body}
use Rattle.kts_emit.specs.ClauseCode.{clause_code, length_of_clause}
use Rattle.kts_emit.proofs.ClausePushes.{short_prefix}
use Rattle.kts_emit.proofs.LongBodies.{bodies_have_length}
use Rattle.kts_index.specs.declared.pattern.Pattern.{Pattern}
use Rattle.kts_plan.specs.declared.definite.Definite.{Definite}
use Rattle.kts_plan.specs.declared.plan.Plan.{Plan}
use Rattle.kts_plan.specs.Constraints.{no_clause, clause_at, constraint_of, prefixes_of}
use Rattle.kts_plan.specs.Plans.{IsPlanOf, clauses_of_spec}
use Rattle.kts_plan.specs.PlanNumbers.{is_plan}
use Rattle.kts_plan.proofs.AskedCells.{clauses_fit}
use Rattle.kts_plan.proofs.ResidualNumbers.{residuals_are_numbered}
use Rattle.kts_spec.specs.declared.declarations.Decl.{Decl}
use Rattle.kts_spec.specs.declared.declarations.Family.{Family}
use Rattle.kts_spec.specs.declared.schema.Schema.{Schema}
use Rattle.kts_spec.specs.declared.spec.Spec.{Spec}
use Rattle.kts_spec.specs.Schemas.{is_schema}
use Rattle.kts_search.specs.ClauseFilters.{filters_by, weight_by}
use Rattle.kts_search.specs.Instrs.{head, tail}
use Rattle.kts_search.specs.SearchParts.{code_with}
use Rattle.kts_search.specs.WholeFaults.{IsTooLong, HasShortPrefixes, IsNamed, instrs_with, instrs_of}
use Rattle.kts_search.specs.WholeScheme.{residuals_in, constraints_in, filters_count, clause_filters, bodies_count, whole_instrs, length_of_whole, whole_entries, whole_patterns, schema_if, schema_with, code_if, code_by, whole_code, whole_scheme}
use Rattle.kts_search.proofs.ResidualFilters.{filters_long}
use Rattle.kts_search.proofs.WholeFormed.{whole_is_code, whole_code_is_there}
use Rattle.kts_search.proofs.WholeLengths.{whole_fits}
use Rattle.kts_search.proofs.WholeParts.{IsMadeOf}

-- ---- numbers

pub residual_named : (plan : Plan) (k : ℕ) → k < length plan.residuals → get_or plan.residuals k 0 < length plan.clauses
unfolding is_plan
residual_named plan k less =
    let named = and_parts _ (list_all (λ r. nat_lt r (length plan.clauses)) plan.residuals) plan.is_plan in
    ltb-true (get_or plan.residuals k 0) (length plan.clauses)
    (all_at (λ r. nat_lt r (length plan.clauses)) plan.residuals k (get_or plan.residuals k 0) named.1 less (own_item plan.residuals k 0 less))

pub definite_named : (plan : Plan) (k : ℕ) (d : Definite) → k < length plan.definites → d ≡ get_or plan.definites k d → IsNamed plan.clauses d
definite_named plan k d less is =
    let named = is_named plan k d less is in
    record { clause = named.clause; literal = named.literal (clause_at plan.clauses d.clause) (own_item plan.clauses d.clause no_clause named.clause) }

-- ---- prefixes

all_short : (cs : List Clause) → ((c : Clause) → In c cs → length c.prefix ≤ most_variables) → (k : ℕ) → length (clause_at cs k).prefix ≤ most_variables
all_short [] f k = omega arith
all_short (c ∷ cs) f zero = f c (inl refl)
all_short (c ∷ cs) f (suc k) = all_short cs (λ x i. f x (inr i)) k

pub short_prefixes : (spec : Spec) (plan : Plan) → plan.clauses ≡ clauses_of_spec spec → HasShortPrefixes plan
short_prefixes spec plan same k =
    let short = λ (c : Clause) (i : In c (clauses_of_spec spec)). short_prefix spec.schema c (clauses_fit spec c i) in
    let all = all_short (clauses_of_spec spec) (λ c i. few (length c.prefix) (short c i)) k in
    subst (λ cs. length (clause_at cs k).prefix ≤ most_variables) (sym same) all
  where
    few : (n : ℕ) → n ≤ 3 → n ≤ most_variables
    few n h = omega arith

-- ---- instructions

pub residuals_same : (spec : Spec) (plan : Plan) → IsPlanOf spec plan → map (clause_at plan.clauses) plan.residuals ≡ residuals_in spec
residuals_same spec plan h =
    ap (λ cs. map (clause_at cs) plan.residuals) h.clauses ∙ ap (map (clause_at (clauses_of_spec spec))) h.residuals ∙ residuals_are_numbered (clauses_of_spec spec)

pub constraints_same : (spec : Spec) (plan : Plan) → IsPlanOf spec plan → map (constraint_of plan.clauses) plan.definites ≡ constraints_in spec
constraints_same spec plan h =
    ap (λ cs. map (constraint_of cs) plan.definites) h.clauses ∙ ap (map (constraint_of (clauses_of_spec spec))) h.definites

pub instrs_same : (spec : Spec) (plan : Plan) → IsPlanOf spec plan → instrs_of plan ≡ whole_instrs spec
instrs_same spec plan h =
    ap (λ cs. instrs_with (filters_by clause_code cs 3 (6 + weight_by length_of_clause cs)) plan) (residuals_same spec plan h)
    ∙ ap (λ cs. code_with (clause_filters spec) (bodies_code 1 (6 + length (clause_filters spec)) cs (9 + length (clause_filters spec)))) (constraints_same spec plan h)

pub patterns_same : (spec : Spec) (plan : Plan) → IsPlanOf spec plan → patterns_of plan ≡ whole_patterns spec
patterns_same spec plan h = ap (λ cs. flat_map constraint_patterns (enumerate_from 0 cs)) (constraints_same spec plan h)

pub entries_same : (spec : Spec) (plan : Plan) (first : ℕ) → IsPlanOf spec plan → first ≡ 9 + filters_count spec
    → entries_from first (map (constraint_of plan.clauses) plan.definites) ≡ whole_entries spec
entries_same spec plan first h e =
    let long = filters_long (residuals_in spec) 3 (6 + filters_count spec) in
    let same : first ≡ 9 + length (clause_filters spec) = omega arith in
    ap (λ p. entries_from p (map (constraint_of plan.clauses) plan.definites)) same ∙ ap (entries_from (9 + length (clause_filters spec))) (constraints_same spec plan h)

-- a body more, behind those that stand
pub next_body : (clauses : List Clause) (ds : List Definite) (k : ℕ) (d : Definite) (old new all : List Instr) (fail : ℕ) → k < length ds → d ≡ get_or ds k d
    → old ++ bodies_code 1 fail (map (constraint_of clauses) (drop k ds)) (length old) ≡ all
    → new ≡ old ++ body_code (constraint_of clauses d) 1 fail (length old) (length (constraint_of clauses d).prefix)
    → new ++ bodies_code 1 fail (map (constraint_of clauses) (drop (k + 1) ds)) (length new) ≡ all
next_body clauses ds k d old new all fail less is so_far e =
    let c = constraint_of clauses d in
    let rest = map (constraint_of clauses) (drop (k + 1) ds) in
    let body = body_code c 1 fail (length old) (length c.prefix) in
    let place = length old + length_of_body c in
    let here : drop k ds ≡ d ∷ drop (k + 1) ds = drop_more ds k d less ∙ ap (λ x. x ∷ drop (k + 1) ds) (sym is) in
    let at : length new ≡ place =
    ap (λ l. length l) e ∙ length-append old body ∙ ap (λ n. length old + n) (bodies_have_length c 1 fail (length old) (length c.prefix)) in
    ap (λ n. new ++ bodies_code 1 fail rest n) at ∙ ap (λ l. l ++ bodies_code 1 fail rest place) e
    ∙ append_assoc old body (bodies_code 1 fail rest place)
    ∙ ap (λ l. old ++ bodies_code 1 fail (map (constraint_of clauses) l) (length old)) (sym here) ∙ so_far

-- a head, filters, a tail and bodies one after another, each at the place where it comes to stand
joined : (n : ℕ) (filters bodies : ℕ → List Instr) (a b c d e : List Instr) → length (filters 3) ≡ n → a ≡ [] → b ≡ a ++ head n → c ≡ b ++ filters (length b)
    → d ≡ c ++ tail n → e ≡ d ++ bodies (length d) → e ≡ head n ++ (filters 3 ++ (tail n ++ bodies (9 + n)))
joined n filters bodies a b c d e long none first second third fourth =
    let f = filters 3 in
    let to_b : b ≡ head n = first ∙ ap (λ l. l ++ head n) none in
    let to_c : c ≡ head n ++ f = second ∙ ap (λ l. l ++ filters (length l)) to_b in
    let to_d : d ≡ head n ++ (f ++ tail n) = third ∙ ap (λ l. l ++ tail n) to_c in
    let place : length (head n ++ (f ++ tail n)) ≡ 9 + n = omega (arith, length-append f (tail n)) in
    fourth ∙ ap (λ k. d ++ bodies k) (ap (λ l. length l) to_d ∙ place) ∙ ap (λ l. l ++ bodies (9 + n)) to_d
    ∙ ap (λ l. head n ++ l) (append_assoc f (tail n) (bodies (9 + n)))

-- so they are the instructions of a plan, with the labels that follow from the count
pub instrs_made : (plan : Plan) (count : ℕ) (a b c d e : List Instr) → count ≡ weight_by length_of_clause (map (clause_at plan.clauses) plan.residuals)
    → a ≡ [] → b ≡ a ++ head count → c ≡ b ++ filters_by clause_code (map (clause_at plan.clauses) plan.residuals) (length b) (6 + count)
    → d ≡ c ++ tail count → e ≡ d ++ bodies_code 1 (6 + count) (map (constraint_of plan.clauses) plan.definites) (length d) → e ≡ instrs_of plan
instrs_made plan count a b c d e counted none first second third fourth =
    let cs = map (clause_at plan.clauses) plan.residuals in
    let ks = map (constraint_of plan.clauses) plan.definites in
    let whole = λ (k n : ℕ). head n ++ (filters_by clause_code cs 3 (6 + k) ++ (tail n ++ bodies_code 1 (6 + n) ks (9 + n))) in
    let w = weight_by length_of_clause cs in
    joined count (λ place. filters_by clause_code cs place (6 + count)) (bodies_code 1 (6 + count) ks) a b c d e
    (filters_long cs 3 (6 + count) ∙ sym counted) none first second third fourth
    ∙ ap (λ k. whole k k) counted ∙ ap (whole w) (sym (filters_long cs 3 (6 + w)))

-- ---- the schema

schema_given : (s : Schema) (tasks : List (List ℕ)) (sound : is_schema s.name s.decls s.indexes s.givens s.choices tasks ≡ true) (test : Bool)
    (e : is_schema s.name s.decls s.indexes s.givens s.choices tasks ≡ test) → test ≡ true
    → schema_if s tasks test e
    ≡ Some (record { name = s.name; decls = s.decls; indexes = s.indexes; givens = s.givens; choices = s.choices; tasks = tasks; is_schema = sound })
schema_given s tasks sound true e h =
    let same : e ≡ sound = Bool-set _ _ e sound in
    ap (λ (t : is_schema s.name s.decls s.indexes s.givens s.choices tasks ≡ true).
    Some (let x : Schema = record { name = s.name; decls = s.decls; indexes = s.indexes; givens = s.givens; choices = s.choices; tasks = tasks; is_schema = t } in x)) same
schema_given s tasks sound false e h = cc

abbrev Again : Schema → List ℕ → List Decl → List (List ℕ) → List Family → List Family → List (List ℕ) → Type 0
Again s name decls indexes givens choices tasks =
    (tasks2 : List (List ℕ)) → tasks2 ≡ tasks → (sound : is_schema name decls indexes givens choices tasks ≡ true)
    → schema_with s tasks2 ≡ Some (record { name = name; decls = decls; indexes = indexes; givens = givens; choices = choices; tasks = tasks; is_schema = sound })

again_own : (s : Schema) (tasks : List (List ℕ)) → Again s s.name s.decls s.indexes s.givens s.choices tasks
unfolding schema_with
again_own s tasks tasks2 same sound = ap (schema_with s) same ∙ schema_given s tasks sound _ refl sound

pub schema_again : (spec : Spec) (schema : Schema) → IsTaskSchema spec schema → schema_with spec.schema (prefixes_of (clauses_of_spec spec)) ≡ Some schema
schema_again spec schema h =
    let s = spec.schema in
    let t = schema.tasks in
    let a = again_own s t in
    let b = subst (λ x. Again s x s.decls s.indexes s.givens s.choices t) (sym h.name) a in
    let c = subst (λ x. Again s schema.name x s.indexes s.givens s.choices t) (sym h.decls) b in
    let d = subst (λ x. Again s schema.name schema.decls x s.givens s.choices t) (sym h.indexes) c in
    let e = subst (λ x. Again s schema.name schema.decls schema.indexes x s.choices t) (sym h.givens) d in
    let f = subst (λ x. Again s schema.name schema.decls schema.indexes schema.givens x t) (sym h.choices) e in
    f (prefixes_of (clauses_of_spec spec)) (sym h.tasks) schema.is_schema

made_of : (spec : Spec) (schema : Schema) → IsTaskSchema spec schema → IsMadeOf spec.schema (prefixes_of (clauses_of_spec spec)) schema
made_of spec schema h = record { name = h.name; decls = h.decls; indexes = h.indexes; givens = h.givens; choices = h.choices; tasks_are = h.tasks }

-- ---- the code

-- parts that are those of the whole code are code, where it is short
pub parts_are_code : (spec : Spec) (schema : Schema) (entries : List ℕ) (patterns : List Pattern) (instrs : List Instr) → IsTaskSchema spec schema
    → entries ≡ whole_entries spec → patterns ≡ whole_patterns spec → instrs ≡ whole_instrs spec → length_of_whole spec ≤ most_instructions
    → is_code schema entries patterns generated_stack instrs ≡ true
parts_are_code spec schema entries patterns instrs h e p i short =
    ap (λ x. is_code schema x patterns generated_stack instrs) e ∙ ap (λ x. is_code schema (whole_entries spec) x generated_stack instrs) p
    ∙ ap (λ x. is_code schema (whole_entries spec) (whole_patterns spec) generated_stack x) i ∙ whole_is_code spec schema (made_of spec schema h) short

code_given : (schema : Schema) (entries : List ℕ) (patterns : List Pattern) (stack : ℕ) (instrs : List Instr)
    (sound : is_code schema entries patterns stack instrs ≡ true) (test : Bool) (e : is_code schema entries patterns stack instrs ≡ test) → test ≡ true
    → code_if schema entries patterns stack instrs test e
    ≡ Some (record { schema = schema; entries = entries; index = patterns; stack = stack; instrs = instrs; is_code = sound })
code_given schema entries patterns stack instrs sound true e h =
    let same : e ≡ sound = Bool-set _ _ e sound in
    ap (λ (t : is_code schema entries patterns stack instrs ≡ true).
    Some (let c : Code = record { schema = schema; entries = entries; index = patterns; stack = stack; instrs = instrs; is_code = t } in c)) same
code_given schema entries patterns stack instrs sound false e h = cc

code_again : (code : Code) → code_by code.schema code.entries code.index code.stack code.instrs ≡ Some code
unfolding code_by
code_again code = code_given code.schema code.entries code.index code.stack code.instrs code.is_code _ refl code.is_code

pub whole_again : (spec : Spec) (code : Code) → IsTaskSchema spec code.schema → code.entries ≡ whole_entries spec → code.index ≡ whole_patterns spec
    → code.stack ≡ generated_stack → code.instrs ≡ whole_instrs spec → whole_scheme spec ≡ Some code
whole_again spec code h e p s i =
    ap (option_and_then (whole_code spec)) (schema_again spec code.schema h)
    ∙ ap (λ x. code_by code.schema x (whole_patterns spec) generated_stack (whole_instrs spec)) (sym e)
    ∙ ap (λ x. code_by code.schema code.entries x generated_stack (whole_instrs spec)) (sym p)
    ∙ ap (λ x. code_by code.schema code.entries code.index x (whole_instrs spec)) (sym s)
    ∙ ap (code_by code.schema code.entries code.index code.stack) (sym i) ∙ code_again code

-- ---- the count

module _ (spec : Spec) (plan : Plan) (h : IsPlanOf spec plan) (f b n l : ℕ) (filters : f ≡ min (weight_by length_of_clause (map (clause_at plan.clauses) plan.residuals)) (2 ^ 64 - 1))
    (bodies : b ≡ min (bodies_count (map (constraint_of plan.clauses) plan.definites)) (2 ^ 64 - 1)) (both : n ≡ min (f + b) (2 ^ 64 - 1))
    (total : l ≡ min (n + 9) (2 ^ 64 - 1)) where
  pub counted : l ≡ min (length_of_whole spec) (2 ^ 64 - 1)
  counted =
      let first = ap (weight_by length_of_clause) (residuals_same spec plan h) in
      let second = ap bodies_count (constraints_same spec plan h) in
      omega arith

  pub filters_exact : l ≤ most_instructions → f ≡ weight_by length_of_clause (map (clause_at plan.clauses) plan.residuals)
  filters_exact less = omega arith

  pub filters_counted : l ≤ most_instructions → f ≡ filters_count spec
  filters_counted less = filters_exact less ∙ ap (weight_by length_of_clause) (residuals_same spec plan h)

  pub is_short : l ≤ most_instructions → length_of_whole spec ≤ most_instructions
  is_short less = let all = counted in omega arith

  pub bodies_fit : l ≤ most_instructions → f + 9 + bodies_count (map (constraint_of plan.clauses) plan.definites) ≤ most_instructions
  bodies_fit less = let exact = filters_exact less in omega arith

no_code : (spec : Spec) (o : Option Code) → whole_scheme spec ≡ o → most_instructions < length_of_whole spec → o ≡ None
no_code spec None e past = refl
no_code spec (Some code) e past = let few = whole_code_is_there.few spec code e in absurd (omega arith)

pub too_long : (spec : Spec) (l : ℕ) → l ≡ min (length_of_whole spec) (2 ^ 64 - 1) → most_instructions < l → IsTooLong spec l
too_long spec l e past =
    let over : most_instructions < length_of_whole spec = omega arith in
    let fits = whole_fits spec in
    record { length_is = omega arith; past = over; no_code = no_code spec (whole_scheme spec) refl over }
