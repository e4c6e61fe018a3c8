-- The parts of the whole code of a specification are code, where it is short.
use Rattle.std.proofs.Common.{◌≡◌, ℕ, suc, ◌+◌, ◌<◌, ◌≤◌, List, [], ◌∷◌, ◌++◌, length, length-append, map, fold, Some, Bool, true, false, cond, ◌&&◌, refl, sym, ap, ◌∙◌, subst, arith, nat_le, nat_eq}
use Rattle.std.specs.Prelude.{nat_lt, flat_map, slice_get, slice_index_or, option_map, option_and_then}
use Rattle.std.specs.List.{enumerate_from, list_all, list_any}
use Rattle.std.proofs.lemmas.Bool.{and_parts, and_from}
use Rattle.std.proofs.lemmas.List.{length-map}
use Rattle.std.proofs.lemmas.List.Folds.{list_all-append}
use Rattle.std.proofs.lemmas.Option.{slice_get_within, slice_get-map, get_or_from_slice_get}
use Rattle.kts_base.specs.Limits.{most_instructions, generated_stack}
use Rattle.kts_base.proofs.Orders.{yes_nat_lt, yes_nat_le}
use Rattle.kts_classify.specs.PlanPatterns.{access_pattern, is_alike, with_new, constraint_patterns}
use Rattle.kts_classify.proofs.TaskPrefixes.{copied_schema}
use Rattle.kts_clause.specs.declared.clause.Clause.{Clause}
use Rattle.kts_clause.specs.ClauseFacts.{ClauseFacts}
use Rattle.kts_code.specs.declared.code.Code.{Code}
use Rattle.kts_code.specs.declared.instructions.Instr.{Instr}
use Rattle.kts_code.specs.declared.instructions.Instr.TheVariants as instr
use Rattle.kts_code.specs.WellFormed.{is_pattern, are_places, is_code}
use Rattle.kts_code.proofs.Fetches.{formed}
use Rattle.kts_emit.specs.Bodies.{body_code}
use Rattle.kts_emit.specs.BodyRuns.{HasDeclarations, bodies_code, entries_from}
use Rattle.kts_emit.specs.BodyWeights.{length_of_body}
use Rattle.kts_emit.specs.ClauseCode.{clause_code}
use Rattle.kts_emit.proofs.Accesses.{index_equals}
use Rattle.kts_emit.proofs.FormedBodies.{bodies_are_well_formed}
use Rattle.kts_emit.proofs.FormedClauses.{clauses_are_well_formed}
use Rattle.kts_emit.proofs.FormedCode.{are_formed, both_formed}
use Rattle.kts_emit.proofs.LongBodies.{bodies_have_length}
use Rattle.kts_emit.proofs.SpecConstraints.{constraint_typed}
use Rattle.kts_index.specs.declared.pattern.Pattern.{Pattern}
use Rattle.kts_plan.specs.Constraints.{Constraint, prefixes_of}
use Rattle.kts_plan.specs.Plans.{clauses_of_spec}
use Rattle.kts_plan.specs.TaskReads.{constraint_reads}
use Rattle.kts_spec.specs.declared.schema.Schema.{Schema}
use Rattle.kts_spec.specs.declared.spec.Spec.{Spec}
use Rattle.kts_spec.specs.Reads.{Access}
use Rattle.kts_spec.specs.Related.{AllOf}
use Rattle.kts_spec.specs.Schemas.{is_schema, family_at}
use Rattle.kts_search.specs.ClauseFilters.{filters_by}
use Rattle.kts_search.specs.Instrs.{head, tail}
use Rattle.kts_search.specs.WholeLaws.{WholeCodeIsThere}
use Rattle.kts_search.specs.WholeScheme.{residuals_in, constraints_in, filters_count, clause_filters, bodies_count, whole_instrs, length_of_whole, whole_entries, whole_patterns, schema_if, schema_with, code_if, code_by, whole_code}
use Rattle.kts_search.proofs.ReadCounts.{all_patterns_few}
use Rattle.kts_search.proofs.ResidualFilters.{residuals_fit, filters_long}
use Rattle.kts_search.proofs.TypedReads.{Fits, constraint_fits}
use Rattle.kts_search.proofs.WholeParts.{IsMadeOf, schema_made, whole_parts, whole_long}

-- a body has two instructions at least
body_some : (c : Constraint) → 2 ≤ length_of_body c
body_some c = omega arith

tasks_few : (cs : List Constraint) → length cs ≤ bodies_count cs
tasks_few [] = omega arith
tasks_few (c ∷ cs) =
    let some = body_some c in
    let rest = tasks_few cs in
    omega arith

entries_count : (cs : List Constraint) (place : ℕ) → length (entries_from place cs) ≡ length cs
entries_count [] place = refl
entries_count (c ∷ cs) place = ap suc (entries_count cs (place + length_of_body c))

module _ (schema : Schema) (places : ℕ) where
  abbrev sound : List Instr → Bool
  sound = are_formed schema places

  -- ---- instructions

  filters_sound : (cs : List Clause) (place to : ℕ) → to < places → place + length (filters_by clause_code cs place to) < places
      → AllOf (ClauseFacts schema) cs → sound (filters_by clause_code cs place to) ≡ true
  filters_sound [] place to lt less facts = refl
  filters_sound (c ∷ cs) place to lt less facts =
      let code = clause_code c place 0 in
      let next = place + length code + 1 in
      let rest = filters_by clause_code cs next to in
      let long = length-append code (instr.Test to ∷ rest) in
      both_formed schema places code (instr.Test to ∷ rest) (clauses_are_well_formed schema c place places facts.0 (omega arith))
      (and_from (nat_lt to places) (sound rest) (yes_nat_lt to places lt) (filters_sound cs next to lt (omega arith) facts.1))

  module _ (done fail : ℕ) where
    abbrev SoundBody : Constraint → Type 0
    SoundBody c = (at : ℕ) → at + length (body_code c done fail at (length c.prefix)) ≤ places → sound (body_code c done fail at (length c.prefix)) ≡ true

    bodies_sound : (cs : List Constraint) (place : ℕ) → ((d : ℕ) (c : Constraint) → slice_get cs d ≡ Some c → SoundBody c)
        → place + bodies_count cs ≤ places → sound (bodies_code done fail cs place) ≡ true
    bodies_sound [] place each fits = refl
    bodies_sound (c ∷ cs) place each fits =
        let next = place + length_of_body c in
        let long = bodies_have_length c done fail place (length c.prefix) in
        both_formed schema places (body_code c done fail place (length c.prefix)) (bodies_code done fail cs next) (each 0 c refl place (omega arith))
        (bodies_sound cs next (λ d b e. each (suc d) b e) (omega arith))

  -- ---- entries

  entries_sound : (cs : List Constraint) (place : ℕ) → place + bodies_count cs ≤ places → list_all (λ to. nat_lt to places) (entries_from place cs) ≡ true
  entries_sound [] place fits = refl
  entries_sound (c ∷ cs) place fits =
      let some = body_some c in
      let next = place + length_of_body c in
      and_from (nat_lt place places) (list_all (λ to. nat_lt to places) (entries_from next cs)) (yes_nat_lt place places (omega arith))
      (entries_sound cs next (omega arith))

-- ---- patterns

new_all : (p : Pattern → Bool) (ps : List Pattern) (q : Pattern) → list_all p ps ≡ true → p q ≡ true → list_all p (with_new ps q) ≡ true
new_all p ps q h k = by (list_any (is_alike q) ps)
  where
    by : (b : Bool) → list_all p (cond b ps (ps ++ q ∷ [])) ≡ true
    by true = h
    by false = list_all-append p ps (q ∷ []) ∙ and_from (list_all p ps) (p q && true) h (and_from (p q) true k refl)

distinct_all : (p : Pattern → Bool) (qs ps : List Pattern) → list_all p ps ≡ true → list_all p qs ≡ true → list_all p (fold with_new ps qs) ≡ true
distinct_all p [] ps h k = h
distinct_all p (q ∷ qs) ps h k =
    let both = and_parts (p q) (list_all p qs) k in
    distinct_all p qs (with_new ps q) (new_all p ps q h both.0) both.1

module _ (schema : Schema) where
  access_sound : (d : ℕ) (prefix : List ℕ) → nat_lt d (length schema.tasks) ≡ true → slice_index_or schema.tasks d [] ≡ prefix → (rs : List Access)
      → AllOf (Fits schema prefix) rs → list_all (is_pattern schema) (map (access_pattern d (length prefix)) rs) ≡ true
  access_sound d prefix there is [] fits = refl
  access_sound d prefix there is (r ∷ rs) fits =
      let p = access_pattern d (length prefix) r in
      let places = subst (λ l. are_places l (family_at schema.choices p.choice).args p.args ≡ true) (sym is) fits.0.places in
      let named = and_from (nat_lt d (length schema.tasks)) (nat_lt r.0 (length schema.choices)) there fits.0.there in
      and_from (is_pattern schema p) (list_all (is_pattern schema) (map (access_pattern d (length prefix)) rs))
      (and_from (nat_lt d (length schema.tasks) && nat_lt r.0 (length schema.choices)) _ named places)
      (access_sound d prefix there is rs fits.1)

  abbrev SoundPatterns : ℕ → Constraint → Type 0
  SoundPatterns d c = list_all (is_pattern schema) (constraint_patterns (d, c)) ≡ true

  constraint_sound : (d : ℕ) (c : Constraint) → nat_lt d (length schema.tasks) ≡ true → slice_index_or schema.tasks d [] ≡ c.prefix
      → AllOf (Fits schema c.prefix) (constraint_reads c) → SoundPatterns d c
  constraint_sound d c there is fits =
      distinct_all (is_pattern schema) (map (access_pattern d (length c.prefix)) (constraint_reads c)) [] refl
      (access_sound d c.prefix there is (constraint_reads c) fits)

  patterns_sound : (cs : List Constraint) (k : ℕ) → ((d : ℕ) (c : Constraint) → slice_get cs d ≡ Some c → SoundPatterns (k + d) c)
      → list_all (is_pattern schema) (flat_map constraint_patterns (enumerate_from k cs)) ≡ true
  patterns_sound [] k each = refl
  patterns_sound (c ∷ cs) k each =
      let first = constraint_patterns (k, c) in
      let rest = flat_map constraint_patterns (enumerate_from (k + 1) cs) in
      let here : k + 0 ≡ k = omega arith in
      let next = λ (d : ℕ). let e : k + suc d ≡ k + 1 + d = omega arith in e in
      list_all-append (is_pattern schema) first rest
      ∙ and_from (list_all (is_pattern schema) first) (list_all (is_pattern schema) rest) (subst (λ n. SoundPatterns n c) here (each 0 c refl))
      (patterns_sound cs (k + 1) (λ d b e. subst (λ n. SoundPatterns n b) (next d) (each (suc d) b e)))

-- ---- the whole code

module _ (spec : Spec) (schema : Schema) (made : IsMadeOf spec.schema (prefixes_of (clauses_of_spec spec)) schema) where
  abbrev cs : List Constraint
  cs = constraints_in spec

  abbrev count : ℕ
  count = length (whole_instrs spec)

  declared : HasDeclarations spec schema
  declared = record { indexes = made.indexes; givens = made.givens; choices = made.choices }

  tasks_count : length schema.tasks ≡ length cs
  tasks_count = ap (λ l. length l) made.tasks_are ∙ length-map cs (λ (c : Constraint). c.prefix)

  prefix_there : (d : ℕ) (c : Constraint) → slice_get cs d ≡ Some c → slice_index_or schema.tasks d [] ≡ c.prefix
  prefix_there d c e =
      ap (λ tasks. slice_index_or tasks d []) made.tasks_are
      ∙ get_or_from_slice_get (prefixes_of (clauses_of_spec spec)) d c.prefix []
      (slice_get-map (λ (c : Constraint). c.prefix) cs d ∙ ap (option_map (λ (c : Constraint). c.prefix)) e)

  each_sound : (d : ℕ) (c : Constraint) → slice_get cs d ≡ Some c → SoundPatterns schema d c
  each_sound d c e =
      let within = slice_get_within cs d c e in
      let same = tasks_count in
      constraint_sound schema d c (yes_nat_lt d (length schema.tasks) (omega arith)) (prefix_there d c e)
      (constraint_fits schema c (constraint_typed spec schema declared d c e))

  all_sound : list_all (is_pattern schema) (whole_patterns spec) ≡ true
  all_sound = patterns_sound schema cs 0 (λ d c e. let same : d ≡ 0 + d = omega arith in subst (λ n. SoundPatterns schema n c) same (each_sound d c e))

  instrs_sound : are_formed schema count (whole_instrs spec) ≡ true
  instrs_sound =
      let filters = clause_filters spec in
      let n = length filters in
      let bodies = bodies_code 1 (6 + n) cs (9 + n) in
      let long = whole_long spec in
      let filters_are = filters_long (residuals_in spec) 3 (6 + filters_count spec) in
      let at : (to : ℕ) → to < count → nat_lt to count ≡ true = λ to less. yes_nat_lt to count less in
      both_formed schema count (head n) (filters ++ (tail n ++ bodies)) (and_from _ _ (at (8 + n) (omega arith)) (and_from _ _ (at 2 (omega arith)) refl))
      (both_formed schema count filters (tail n ++ bodies)
      (filters_sound schema count (residuals_in spec) 3 (6 + filters_count spec) (omega arith) (omega arith) (residuals_fit spec schema declared))
      (both_formed schema count (tail n) bodies
      (and_from _ _ (at (5 + n) (omega arith))
      (and_from _ _ (at 1 (omega arith)) (and_from _ _ (at (8 + n) (omega arith)) (and_from _ _ (at 1 (omega arith)) refl))))
      (bodies_sound schema count 1 (6 + n) cs (9 + n)
      (λ d c e p fits. bodies_are_well_formed spec schema declared d c e 1 (6 + n) p count (omega arith) (omega arith) fits) (omega arith))))

  pub whole_is_code : length_of_whole spec ≤ most_instructions
      → is_code schema (whole_entries spec) (whole_patterns spec) generated_stack (whole_instrs spec) ≡ true
  unfolding is_code
  whole_is_code short =
      let long = whole_long spec in
      let filters_are = filters_long (residuals_in spec) 3 (6 + filters_count spec) in
      let patterns = all_patterns_few 0 cs in
      let tasks = tasks_few cs in
      let same = tasks_count in
      let place = 9 + length (clause_filters spec) in
      let entered : length (whole_entries spec) ≡ length schema.tasks = entries_count cs place ∙ sym same in
      let some = and_from (nat_le 1 count) (nat_le count most_instructions) (yes_nat_le 1 count (omega arith)) (yes_nat_le count most_instructions (omega arith)) in
      let stacked = and_from _ _ (and_from _ _ some refl) refl in
      let few = and_from _ _ (and_from _ _ stacked (yes_nat_le (length schema.tasks) most_instructions (omega arith)))
      (yes_nat_le (length (whole_patterns spec)) most_instructions (omega arith)) in
      let entries = and_from (nat_eq (length (whole_entries spec)) (length schema.tasks)) _
      (ap (λ k. nat_eq k (length schema.tasks)) entered ∙ index_equals (length schema.tasks)) (entries_sound schema count cs place (omega arith)) in
      and_from _ _ (and_from _ _ (and_from _ _ few entries) all_sound) instrs_sound

-- ---- there is such code

schema_there : (s : Schema) (tasks : List (List ℕ)) (test : Bool) (e : is_schema s.name s.decls s.indexes s.givens s.choices tasks ≡ test) → test ≡ true
    → (schema : Schema) × (schema_if s tasks test e ≡ Some schema)
schema_there s tasks true e is = (record { name = s.name; decls = s.decls; indexes = s.indexes; givens = s.givens; choices = s.choices; tasks = tasks; is_schema = e }, refl)
schema_there s tasks false e is = cc

schema_is_there : (spec : Spec) → (schema : Schema) × (schema_with spec.schema (prefixes_of (clauses_of_spec spec)) ≡ Some schema)
unfolding schema_with
schema_is_there spec =
    let s = spec.schema in
    let tasks = prefixes_of (clauses_of_spec spec) in
    schema_there s tasks _ refl (copied_schema spec s.name s.decls s.indexes s.givens s.choices tasks refl refl refl refl refl refl)

code_there : (schema : Schema) (entries : List ℕ) (patterns : List Pattern) (stack : ℕ) (instrs : List Instr) (test : Bool)
    (e : is_code schema entries patterns stack instrs ≡ test) → test ≡ true → (code : Code) × (code_if schema entries patterns stack instrs test e ≡ Some code)
code_there schema entries patterns stack instrs true e is =
    (record { schema = schema; entries = entries; index = patterns; stack = stack; instrs = instrs; is_code = e }, refl)
code_there schema entries patterns stack instrs false e is = cc

code_is_there : (schema : Schema) (entries : List ℕ) (patterns : List Pattern) (stack : ℕ) (instrs : List Instr)
    → is_code schema entries patterns stack instrs ≡ true → (code : Code) × (code_by schema entries patterns stack instrs ≡ Some code)
unfolding code_by
code_is_there schema entries patterns stack instrs is = code_there schema entries patterns stack instrs _ refl is

pub whole_code_is_there : WholeCodeIsThere
whole_code_is_there = record {
  has = λ spec short.
      let schema = schema_is_there spec in
      let made = schema_made spec.schema (prefixes_of (clauses_of_spec spec)) schema.0 schema.1 in
      let code = code_is_there schema.0 (whole_entries spec) (whole_patterns spec) generated_stack (whole_instrs spec)
      (whole_is_code spec schema.0 made short) in
      (code.0, ap (option_and_then (whole_code spec)) schema.1 ∙ code.1);
  few = λ spec code made.
      let few = (formed code).few in
      let same = ap (λ l. length l) (whole_parts spec code made).instrs ∙ whole_long spec in
      omega arith;
}
