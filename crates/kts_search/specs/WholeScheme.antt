-- The whole code of a specification: the search, filters by the clauses without a head, and the bodies of the constraints.
use Rattle.std.specs.Prelude.{◌≡◌, ℕ, ◌+◌, List, ◌∷◌, [], length, flat_map, Bool, true, false, Option, Some, None, option_and_then, refl}
use Rattle.std.specs.List.{enumerate_from}
use Rattle.kts_base.specs.Limits.{generated_stack}
use Rattle.kts_classify.specs.PlanPatterns.{constraint_patterns}
use Rattle.kts_clause.specs.declared.clause.Clause.{Clause}
use Rattle.kts_code.specs.declared.code.Code.{Code}
use Rattle.kts_code.specs.declared.instructions.Instr.{Instr}
use Rattle.kts_code.specs.WellFormed.{is_code}
use Rattle.kts_emit.specs.BodyRuns.{bodies_code, entries_from}
use Rattle.kts_emit.specs.BodyWeights.{length_of_body}
use Rattle.kts_emit.specs.ClauseCode.{clause_code, length_of_clause}
use Rattle.kts_index.specs.declared.pattern.Pattern.{Pattern}
use Rattle.kts_plan.specs.Constraints.{Constraint, constraints_of, prefixes_of}
use Rattle.kts_plan.specs.Plans.{clauses_of_spec}
use Rattle.kts_plan.specs.Walks.{residual_clauses}
use Rattle.kts_spec.specs.declared.schema.Schema.{Schema}
use Rattle.kts_spec.specs.declared.spec.Spec.{Spec}
use Rattle.kts_spec.specs.Schemas.{is_schema}
use Rattle.kts_search.specs.ClauseFilters.{filters_by, weight_by}
use Rattle.kts_search.specs.SearchParts.{code_with}

-- ---- instructions

-- the clauses that no head carries, and the constraints
abbrev pub residuals_in : Spec → List Clause
residuals_in spec = residual_clauses (clauses_of_spec spec)

abbrev pub constraints_in : Spec → List Constraint
constraints_in spec = constraints_of (clauses_of_spec spec)

-- how many instructions the filters have: each clause, and its test
abbrev pub filters_count : Spec → ℕ
filters_count spec = weight_by length_of_clause (residuals_in spec)

-- the filters, which leave to where the last choice is undone
abbrev pub clause_filters : Spec → List Instr
clause_filters spec = filters_by clause_code (residuals_in spec) 3 (6 + filters_count spec)

-- how many instructions bodies have
abbrev pub bodies_count : List Constraint → ℕ
bodies_count [] = 0
bodies_count (c ∷ cs) = length_of_body c + bodies_count cs

-- all instructions
abbrev pub whole_instrs : Spec → List Instr
whole_instrs spec =
    let n = length (clause_filters spec) in
    code_with (clause_filters spec) (bodies_code 1 (6 + n) (constraints_in spec) (9 + n))

-- their number
abbrev pub length_of_whole : Spec → ℕ
length_of_whole spec = 9 + filters_count spec + bodies_count (constraints_in spec)

-- ---- the other parts

-- where the body of each constraint begins
abbrev pub whole_entries : Spec → List ℕ
whole_entries spec = entries_from (9 + length (clause_filters spec)) (constraints_in spec)

-- for each constraint, the patterns of what it reads
abbrev pub whole_patterns : Spec → List Pattern
whole_patterns spec = flat_map constraint_patterns (enumerate_from 0 (constraints_in spec))

-- the declarations with these tasks, where the test of them is passed
abbrev pub schema_if : (s : Schema) (tasks : List (List ℕ)) (test : Bool) → is_schema s.name s.decls s.indexes s.givens s.choices tasks ≡ test → Option Schema
schema_if s tasks true sound =
    Some (record {
      name = s.name;
      decls = s.decls;
      indexes = s.indexes;
      givens = s.givens;
      choices = s.choices;
      tasks = tasks;
      is_schema = sound;
    })
schema_if s tasks false unsound = None

unfoldable pub schema_with : Schema → List (List ℕ) → Option Schema
schema_with s tasks = schema_if s tasks (is_schema s.name s.decls s.indexes s.givens s.choices tasks) refl

-- the code of these parts, where the test of them is passed
abbrev pub code_if : (schema : Schema) (entries : List ℕ) (patterns : List Pattern) (stack : ℕ) (instrs : List Instr) (test : Bool)
    → is_code schema entries patterns stack instrs ≡ test → Option Code
code_if schema entries patterns stack instrs true sound =
    Some (record { schema = schema; entries = entries; index = patterns; stack = stack; instrs = instrs; is_code = sound })
code_if schema entries patterns stack instrs false unsound = None

unfoldable pub code_by : Schema → List ℕ → List Pattern → ℕ → List Instr → Option Code
code_by schema entries patterns stack instrs = code_if schema entries patterns stack instrs (is_code schema entries patterns stack instrs) refl

-- ---- the code

-- where the parts are those of code
abbrev pub whole_code : Spec → Schema → Option Code
whole_code spec schema = code_by schema (whole_entries spec) (whole_patterns spec) generated_stack (whole_instrs spec)

-- the whole code of a specification; none where it is too long
abbrev pub whole_scheme : Spec → Option Code
whole_scheme spec = option_and_then (whole_code spec) (schema_with spec.schema (prefixes_of (clauses_of_spec spec)))
