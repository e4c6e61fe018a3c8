-- The whole code of a specification has its parts, and searches.
use Rattle.std.proofs.Common.{◌≡◌, ℕ, ◌+◌, List, [], ◌∷◌, ◌++◌, length, length-append, Option, Some, None, Bool, true, false, refl, sym, ap, ◌∙◌, subst, arith}
use Rattle.std.specs.Prelude.{option_and_then}
use Rattle.kts_base.specs.Limits.{generated_stack}
use Rattle.kts_classify.proofs.PatternPairings.{patterns_pair}
use Rattle.kts_classify.proofs.PlanCounts.{plan_is}
use Rattle.kts_code.specs.declared.code.Code.{Code}
use Rattle.kts_code.specs.declared.instructions.Instr.{Instr}
use Rattle.kts_code.specs.Setups.{Setup, setup_of, world_in}
use Rattle.kts_code.specs.WellFormed.{is_code}
use Rattle.kts_emit.specs.BodyRuns.{bodies_code}
use Rattle.kts_emit.specs.Bodies.{body_code}
use Rattle.kts_emit.specs.BodyWeights.{length_of_body}
use Rattle.kts_emit.specs.ClauseCode.{clause_code, clause_weight}
use Rattle.kts_emit.proofs.LongBodies.{bodies_have_length}
use Rattle.kts_index.specs.declared.pattern.Pattern.{Pattern}
use Rattle.kts_plan.specs.declared.plan.Plan.{Plan}
use Rattle.kts_plan.specs.Constraints.{Constraint, prefixes_of}
use Rattle.kts_plan.specs.Plans.{clauses_of_spec, definites_of, residuals_of}
use Rattle.kts_spec.specs.declared.schema.Schema.{Schema}
use Rattle.kts_spec.specs.declared.spec.Spec.{Spec}
use Rattle.kts_spec.specs.Data.{is_valid}
use Rattle.kts_spec.specs.Schemas.{is_schema}
use Rattle.kts_spec.specs.Worlds.{size_of}
use Rattle.kts_search.specs.Instrs.{head, tail}
use Rattle.kts_search.specs.SearchCodes.{Covers, SearchCode}
use Rattle.kts_search.specs.SearchParts.{code_with, IsCodeOf}
use Rattle.kts_search.specs.WholeLaws.{filters_weight, task_weight, IsWhole, WholeCodeSearches}
use Rattle.kts_search.specs.WholeScheme.{residuals_in, constraints_in, filters_count, clause_filters, bodies_count, whole_instrs, length_of_whole, whole_entries, whole_patterns, schema_if, schema_with, code_if, code_by, whole_code, whole_scheme}
use Rattle.kts_search.proofs.CodeParts.{specifications_search}
use Rattle.kts_search.proofs.PrintedAnswers.{prints_answers}
use Rattle.kts_search.proofs.ResidualFilters.{residuals_push, filters_long}
use Rattle.kts_search.proofs.WholeSearch.{code_searches}

-- ---- parts

-- a schema that was made has those parts
pub record IsMadeOf (s : Schema) (tasks : List (List ℕ)) (schema : Schema) : Type 0 where
  pub name : schema.name ≡ s.name
  pub decls : schema.decls ≡ s.decls
  pub indexes : schema.indexes ≡ s.indexes
  pub givens : schema.givens ≡ s.givens
  pub choices : schema.choices ≡ s.choices
  pub tasks_are : schema.tasks ≡ tasks

schema_made_if : (s : Schema) (tasks : List (List ℕ)) (schema : Schema) (test : Bool) (e : is_schema s.name s.decls s.indexes s.givens s.choices tasks ≡ test)
    → schema_if s tasks test e ≡ Some schema → IsMadeOf s tasks schema
schema_made_if s tasks schema true e is =
    let made : Schema = record { name = s.name; decls = s.decls; indexes = s.indexes; givens = s.givens; choices = s.choices; tasks = tasks; is_schema = e } in
    let same : made ≡ schema = cc in
    record {
      name = sym (ap (λ (x : Schema). x.name) same);
      decls = sym (ap (λ (x : Schema). x.decls) same);
      indexes = sym (ap (λ (x : Schema). x.indexes) same);
      givens = sym (ap (λ (x : Schema). x.givens) same);
      choices = sym (ap (λ (x : Schema). x.choices) same);
      tasks_are = sym (ap (λ (x : Schema). x.tasks) same);
    }
schema_made_if s tasks schema false e is = cc

pub schema_made : (s : Schema) (tasks : List (List ℕ)) (schema : Schema) → schema_with s tasks ≡ Some schema → IsMadeOf s tasks schema
unfolding schema_with
schema_made s tasks schema e = schema_made_if s tasks schema _ refl e

-- code that was made has those parts
record HasParts (schema : Schema) (entries : List ℕ) (patterns : List Pattern) (stack : ℕ) (instrs : List Instr) (code : Code) : Type 0 where
  schema_is : code.schema ≡ schema
  entries_are : code.entries ≡ entries
  patterns_are : code.index ≡ patterns
  stack_is : code.stack ≡ stack
  instrs_are : code.instrs ≡ instrs

code_made_if : (schema : Schema) (entries : List ℕ) (patterns : List Pattern) (stack : ℕ) (instrs : List Instr) (code : Code) (test : Bool)
    (e : is_code schema entries patterns stack instrs ≡ test)
    → code_if schema entries patterns stack instrs test e ≡ Some code → HasParts schema entries patterns stack instrs code
code_made_if schema entries patterns stack instrs code true e is =
    let made : Code = record { schema = schema; entries = entries; index = patterns; stack = stack; instrs = instrs; is_code = e } in
    let same : made ≡ code = cc in
    record {
      schema_is = sym (ap (λ (x : Code). x.schema) same);
      entries_are = sym (ap (λ (x : Code). x.entries) same);
      patterns_are = sym (ap (λ (x : Code). x.index) same);
      stack_is = sym (ap (λ (x : Code). x.stack) same);
      instrs_are = sym (ap (λ (x : Code). x.instrs) same);
    }
code_made_if schema entries patterns stack instrs code false e is = cc

code_made : (schema : Schema) (entries : List ℕ) (patterns : List Pattern) (stack : ℕ) (instrs : List Instr) (code : Code)
    → code_by schema entries patterns stack instrs ≡ Some code → HasParts schema entries patterns stack instrs code
unfolding code_by
code_made schema entries patterns stack instrs code e = code_made_if schema entries patterns stack instrs code _ refl e

-- the schema behind a result
then_made : (spec : Spec) (code : Code) (o : Option Schema) → option_and_then (whole_code spec) o ≡ Some code
    → (schema : Schema) × (o ≡ Some schema) × (whole_code spec schema ≡ Some code)
then_made spec code None e = cc
then_made spec code (Some schema) e = (schema, refl, e)

pub whole_parts : (spec : Spec) (code : Code) → whole_scheme spec ≡ Some code → IsWhole spec code
whole_parts spec code e =
    let tasks = prefixes_of (clauses_of_spec spec) in
    let made = then_made spec code (schema_with spec.schema tasks) e in
    let schema = schema_made spec.schema tasks made.0 made.1 in
    let is = code_made made.0 (whole_entries spec) (whole_patterns spec) generated_stack (whole_instrs spec) code made.2 in
    record {
      name = ap (λ (s : Schema). s.name) is.schema_is ∙ schema.name;
      decls = ap (λ (s : Schema). s.decls) is.schema_is ∙ schema.decls;
      declarations = record {
        indexes = ap (λ (s : Schema). s.indexes) is.schema_is ∙ schema.indexes;
        givens = ap (λ (s : Schema). s.givens) is.schema_is ∙ schema.givens;
        choices = ap (λ (s : Schema). s.choices) is.schema_is ∙ schema.choices;
      };
      tasks = ap (λ (s : Schema). s.tasks) is.schema_is ∙ schema.tasks_are;
      entries = is.entries_are;
      patterns = is.patterns_are;
      stack = is.stack_is;
      instrs = is.instrs_are;
    }

-- its schema is the one with the tasks of the specification
pub whole_schema : (spec : Spec) (code : Code) → whole_scheme spec ≡ Some code → schema_with spec.schema (prefixes_of (clauses_of_spec spec)) ≡ Some code.schema
whole_schema spec code e =
    let made = then_made spec code (schema_with spec.schema (prefixes_of (clauses_of_spec spec))) e in
    let is = code_made made.0 (whole_entries spec) (whole_patterns spec) generated_stack (whole_instrs spec) code made.2 in
    made.1 ∙ ap (λ (s : Schema). Some s) (sym is.schema_is)

-- ---- the number of instructions

pub bodies_long : (done fail : ℕ) (cs : List Constraint) (place : ℕ) → length (bodies_code done fail cs place) ≡ bodies_count cs
bodies_long done fail [] place = refl
bodies_long done fail (c ∷ cs) place =
    let first = bodies_have_length c done fail place (length c.prefix) in
    let next = place + length_of_body c in
    let rest = bodies_long done fail cs next in
    omega (arith, length-append (body_code c done fail place (length c.prefix)) (bodies_code done fail cs next))

code_long : (filters bodies : List Instr) → length (code_with filters bodies) ≡ 9 + length filters + length bodies
code_long filters bodies =
    let n = length filters in
    omega (arith, length-append (head n) (filters ++ (tail n ++ bodies)), length-append filters (tail n ++ bodies), length-append (tail n) bodies)

pub whole_long : (spec : Spec) → length (whole_instrs spec) ≡ length_of_whole spec
whole_long spec =
    let filters = clause_filters spec in
    let n = length filters in
    let bodies = bodies_code 1 (6 + n) (constraints_in spec) (9 + n) in
    let all = code_long filters bodies in
    let first = filters_long (residuals_in spec) 3 (6 + filters_count spec) in
    let rest = bodies_long 1 (6 + n) (constraints_in spec) (9 + n) in
    omega arith

-- ---- the search

plan_of : Spec → Plan
plan_of spec = record {
  clauses = clauses_of_spec spec;
  definites = definites_of (clauses_of_spec spec);
  residuals = residuals_of (clauses_of_spec spec);
  is_plan = plan_is spec;
}

covers_own : (spec : Spec) → Covers (clauses_of_spec spec) (whole_patterns spec)
unfolding plan_of
covers_own spec task cell reads = patterns_pair (plan_of spec) task cell ∙ reads

module _ (spec : Spec) (m : Setup) (made : whole_scheme spec ≡ Some m.code) (valid : is_valid m.code.schema m.inst ≡ true) where
  whole : IsWhole spec m.code
  whole = whole_parts spec m.code made

  is_code_of : IsCodeOf spec m (clause_filters spec)
  is_code_of = record {
    declarations = whole.declarations;
    tasks = whole.tasks;
    entries = whole.entries;
    instrs = whole.instrs;
    places = let e = whole.stack in omega arith;
    covers = subst (Covers (clauses_of_spec spec)) (sym whole.patterns) (covers_own spec);
  }

  pub search_code : SearchCode spec m (task_weight (world_in m) spec) (filters_weight (world_in m) spec)
  search_code =
      specifications_search.by_clauses spec m clause_code (clause_weight (size_of (world_in m))) (filters_count spec)
      (filters_long (residuals_in spec) 3 (6 + filters_count spec)) is_code_of valid
      (residuals_push spec m whole.declarations valid whole.stack)

pub whole_code_searches : WholeCodeSearches
whole_code_searches = record {
  parts = whole_parts;
  size = λ spec code made. ap (λ l. length l) (whole_parts spec code made).instrs ∙ whole_long spec;
  code = search_code;
  searches = λ spec m made valid origin.
      code_searches spec m (task_weight (world_in m) spec) (filters_weight (world_in m) spec) (search_code spec m made valid) origin;
  inside = λ spec m made valid origin.
      prints_answers.inside spec m (task_weight (world_in m) spec) (filters_weight (world_in m) spec) (search_code spec m made valid) origin;
  answers = λ spec inst code made valid.
      let m = setup_of code inst in
      prints_answers.whole spec m (task_weight (world_in m) spec) (filters_weight (world_in m) spec) (search_code spec m made valid) refl;
}
