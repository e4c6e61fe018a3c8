-- The manual of the command line: which words are which command. It stands apart from how the program reads them.
use Rattle.std.specs.Prelude.{◌≡◌, ◌≢◌, ◌⊎◌, ◌↔◌, ℕ, List, [], ◌∷◌, ◌++◌, Some, true, codes}
use Rattle.kts_base.specs.Limits.{most_budget, most_first, most_sample}
use Rattle.kts_base.specs.Numerals.{IsNumber}
use Rattle.kts_top.specs.Options.{RunOptions}
use Rattle.kts_top.specs.Commands.{Command, check, classify, generate, run, solve_data, solve, audit, sample}

-- the word may name a file: it isn't empty, and doesn't begin with `-`
pub record IsFileWord (word : List ℕ) : Type 0 where
  pub some : word ≢ []
  pub no_dash : (rest : List ℕ) → word ≢ codes "-" ++ rest

-- an option that is told: the steps of a run, the schedules to stop after, or that each node is printed
pub data Told : Type 0 where
  told_budget : (steps : ℕ) → Told
  told_first : (schedules : ℕ) → Told
  told_trace : Told

abbrev pub name_of : Told → List ℕ
name_of (told_budget n) = codes "--budget"
name_of (told_first n) = codes "--first"
name_of told_trace = codes "--trace"

-- these words tell it: its name, and its number where it has one
abbrev pub IsTold : Told → List (List ℕ) → Type 0
IsTold (told_budget n) words = (word : List ℕ) × IsNumber 0 most_budget word n × (words ≡ codes "--budget" ∷ word ∷ [])
IsTold (told_first n) words = (word : List ℕ) × IsNumber 1 most_first word n × (words ≡ codes "--first" ∷ word ∷ [])
IsTold told_trace words = words ≡ codes "--trace" ∷ []

-- these words tell these options, one after another
abbrev pub AreTold : List Told → List (List ℕ) → Type 0
AreTold [] words = words ≡ []
AreTold (told ∷ tolds) words = (here rest : List (List ℕ)) × IsTold told here × AreTold tolds rest × (words ≡ here ++ rest)

-- the option stands among these
abbrev pub IsAmong : Told → List Told → Type 0
IsAmong told [] = ⊥
IsAmong told (other ∷ tolds) = (told ≡ other) ⊎ IsAmong told tolds

-- no two have the same name
abbrev pub AreUnlike : List Told → Type 0
AreUnlike [] = Unit {0}
AreUnlike (told ∷ tolds) = ((other : Told) → IsAmong other tolds → name_of other ≢ name_of told) × AreUnlike tolds

-- the options say this
abbrev pub Say : RunOptions → Told → Type 0
Say options (told_budget n) = options.budget ≡ Some n
Say options (told_first n) = options.first ≡ Some n
Say options told_trace = options.trace ≡ true

-- the words are these options: each is told at most once, in any order, and the options say what is told and no more
pub record IsOptions (options : RunOptions) (words : List (List ℕ)) : Type 0 where
  pub tolds : List Told
  pub spelled : AreTold tolds words
  pub unlike : AreUnlike tolds
  pub exactly : (told : Told) → Say options told ↔ IsAmong told tolds

-- the words are this command
pub data IsCommand : Command → List (List ℕ) → Type 0 where
  -- check SPEC
  check_words : {spec : List ℕ} {words : List (List ℕ)} → IsFileWord spec
      → words ≡ codes "check" ∷ spec ∷ [] → IsCommand (check spec) words
  -- classify SPEC
  classify_words : {spec : List ℕ} {words : List (List ℕ)} → IsFileWord spec
      → words ≡ codes "classify" ∷ spec ∷ [] → IsCommand (classify spec) words
  -- generate SPEC
  generate_words : {spec : List ℕ} {words : List (List ℕ)} → IsFileWord spec
      → words ≡ codes "generate" ∷ spec ∷ [] → IsCommand (generate spec) words
  -- run CODE DATA, and options
  run_words : {code table : List ℕ} {options : RunOptions} {words told : List (List ℕ)} → IsFileWord code → IsFileWord table → IsOptions options told
      → words ≡ codes "run" ∷ code ∷ table ∷ told → IsCommand (run code table options) words
  -- solve SPEC DATA, and options
  solve_data_words : {spec table : List ℕ} {options : RunOptions} {words told : List (List ℕ)} → IsFileWord spec → IsFileWord table → IsOptions options told
      → words ≡ codes "solve" ∷ spec ∷ table ∷ told → IsCommand (solve_data spec table options) words
  -- solve SPEC, and options
  solve_words : {spec : List ℕ} {options : RunOptions} {words told : List (List ℕ)} → IsFileWord spec → IsOptions options told
      → words ≡ codes "solve" ∷ spec ∷ told → IsCommand (solve spec options) words
  -- audit SPEC DATA PLAN
  audit_words : {spec table plan : List ℕ} {words : List (List ℕ)} → IsFileWord spec → IsFileWord table → IsFileWord plan
      → words ≡ codes "audit" ∷ spec ∷ table ∷ plan ∷ [] → IsCommand (audit spec table plan) words
  -- sample N, with N from 1 to its limit
  sample_words : {size : ℕ} {words : List (List ℕ)} {word : List ℕ} → IsNumber 1 most_sample word size
      → words ≡ codes "sample" ∷ word ∷ [] → IsCommand (sample size) words
