-- Why no whole code was generated, and what is known of the plan that it is made of.
use Rattle.std.specs.Prelude.{◌≡◌, ◌<◌, ◌≤◌, ◌+◌, ℕ, List, length, map, None}
use Rattle.kts_base.specs.Limits.{most_instructions, most_variables}
use Rattle.kts_clause.specs.declared.clause.Clause.{Clause}
use Rattle.kts_code.specs.declared.instructions.Instr.{Instr}
use Rattle.kts_emit.specs.BodyRuns.{bodies_code}
use Rattle.kts_emit.specs.ClauseCode.{clause_code, length_of_clause}
use Rattle.kts_plan.specs.declared.definite.Definite.{Definite}
use Rattle.kts_plan.specs.declared.plan.Plan.{Plan}
use Rattle.kts_plan.specs.Constraints.{clause_at, constraint_of}
use Rattle.kts_spec.specs.declared.spec.Spec.{Spec}
use Rattle.kts_search.specs.ClauseFilters.{filters_by, weight_by}
use Rattle.kts_search.specs.SearchParts.{code_with}
use Rattle.kts_search.specs.declared.generator.GenFault.{GenFault}
use Rattle.kts_search.specs.declared.generator.GenFault.TheVariants.{TooLong, NoMemory}
use Rattle.kts_search.specs.WholeScheme.{length_of_whole, whole_scheme}

-- the code would have so many instructions, which are too many
pub record IsTooLong (spec : Spec) (n : ℕ) : Type 0 where
  pub length_is : n ≡ length_of_whole spec
  pub past : most_instructions < length_of_whole spec
  pub no_code : whole_scheme spec ≡ None

-- it would be too long, or memory was refused
abbrev pub IsWholeFault : Spec → GenFault → Type 0
IsWholeFault spec (TooLong n) = IsTooLong spec n
IsWholeFault spec NoMemory = Unit {0}

-- ---- plans

-- no clause has more variables in its prefix than there are registers
abbrev pub HasShortPrefixes : Plan → Type 0
HasShortPrefixes plan = (k : ℕ) → length (clause_at plan.clauses k).prefix ≤ most_variables

-- the clause of a constraint is there, and its literal in it
pub record IsNamed (clauses : List Clause) (d : Definite) : Type 0 where
  pub clause : d.clause < length clauses
  pub literal : d.literal < length (clause_at clauses d.clause).literals

-- the instructions that a plan gives
abbrev pub instrs_with : List Instr → Plan → List Instr
instrs_with filters plan =
    code_with filters (bodies_code 1 (6 + length filters) (map (constraint_of plan.clauses) plan.definites) (9 + length filters))

abbrev pub instrs_of : Plan → List Instr
instrs_of plan =
    let cs = map (clause_at plan.clauses) plan.residuals in
    instrs_with (filters_by clause_code cs 3 (6 + weight_by length_of_clause cs)) plan
