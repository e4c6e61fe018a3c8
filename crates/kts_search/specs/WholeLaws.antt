-- What is proved of the whole code of a specification.
use Rattle.std.specs.Prelude.{◌≡◌, ◌≤◌, ℕ, length, true, Some}
use Rattle.kts_base.specs.Limits.{most_instructions, generated_stack}
use Rattle.kts_code.specs.declared.code.Code.{Code}
use Rattle.kts_code.specs.Prints.{Prints}
use Rattle.kts_code.specs.Setups.{Setup, setup_of, world_in}
use Rattle.kts_emit.specs.BodyRuns.{HasDeclarations}
use Rattle.kts_emit.specs.ClauseCode.{clause_weight}
use Rattle.kts_plan.specs.Constraints.{prefixes_of}
use Rattle.kts_plan.specs.Plans.{clauses_of_spec}
use Rattle.kts_spec.specs.declared.instance.Instance.{Instance}
use Rattle.kts_spec.specs.declared.spec.Spec.{Spec}
use Rattle.kts_spec.specs.Answers.{answer}
use Rattle.kts_spec.specs.Data.{is_valid}
use Rattle.kts_spec.specs.Worlds.{World, size_of}
use Rattle.kts_search.specs.ClauseFilters.{weight_by}
use Rattle.kts_search.specs.SearchCodes.{SearchCode}
use Rattle.kts_search.specs.SearchParts.{largest_task}
use Rattle.kts_search.specs.Searches.{IsOrigin, Searches, answer_in}
use Rattle.kts_search.specs.WholeScheme.{residuals_in, length_of_whole, whole_entries, whole_patterns, whole_instrs, whole_scheme}

-- the weight of the filters
abbrev pub filters_weight : World → Spec → ℕ
filters_weight w spec = weight_by (clause_weight (size_of w)) (residuals_in spec)

-- the largest weight of a task
abbrev pub task_weight : World → Spec → ℕ
task_weight w spec = largest_task w (clauses_of_spec spec)

-- code with these parts
pub record IsWhole (spec : Spec) (code : Code) : Type 0 where
  pub name : code.schema.name ≡ spec.schema.name
  pub decls : code.schema.decls ≡ spec.schema.decls
  pub declarations : HasDeclarations spec code.schema
  pub tasks : code.schema.tasks ≡ prefixes_of (clauses_of_spec spec)
  pub entries : code.entries ≡ whole_entries spec
  pub patterns : code.index ≡ whole_patterns spec
  pub stack : code.stack ≡ generated_stack
  pub instrs : code.instrs ≡ whole_instrs spec

-- The whole code of a specification has these parts, and is so long; on valid data it searches, from every origin: whatever tasks are
-- taken, it writes the walk from there and prints the schedules of the answer that the origin holds, within the steps that are enough;
-- from the space of all schedules it prints the answer.
pub record WholeCodeSearches : Type 0 where
  pub parts : (spec : Spec) (code : Code) → whole_scheme spec ≡ Some code → IsWhole spec code
  pub size : (spec : Spec) (code : Code) → whole_scheme spec ≡ Some code → length code.instrs ≡ length_of_whole spec
  pub code : (spec : Spec) (m : Setup) → whole_scheme spec ≡ Some m.code → is_valid m.code.schema m.inst ≡ true
      → SearchCode spec m (task_weight (world_in m) spec) (filters_weight (world_in m) spec)
  pub searches : (spec : Spec) (m : Setup) → whole_scheme spec ≡ Some m.code → is_valid m.code.schema m.inst ≡ true → IsOrigin (world_in m) m.origin
      → Searches spec m (task_weight (world_in m) spec) (filters_weight (world_in m) spec)
  pub inside : (spec : Spec) (m : Setup) → whole_scheme spec ≡ Some m.code → is_valid m.code.schema m.inst ≡ true → IsOrigin (world_in m) m.origin
      → Prints m (answer_in spec m m.origin)
  pub answers : (spec : Spec) (inst : Instance) (code : Code) → whole_scheme spec ≡ Some code → is_valid code.schema inst ≡ true
      → Prints (setup_of code inst) (answer spec inst)

-- Exactly the specifications have it whose code is not too long.
pub record WholeCodeIsThere : Type 0 where
  pub has : (spec : Spec) → length_of_whole spec ≤ most_instructions → (code : Code) × (whole_scheme spec ≡ Some code)
  pub few : (spec : Spec) (code : Code) → whole_scheme spec ≡ Some code → length_of_whole spec ≤ most_instructions
