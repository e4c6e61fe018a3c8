-- The commands, read from words.
use Rattle.std.specs.Prelude.{ℕ, ◌≤◌, List, [], ◌∷◌, ◌&&◌, Option, Some, None, option_map, codes, if◌then◌else◌}
use Rattle.kts_base.specs.Limits.{most_sample}
use Rattle.kts_base.specs.Numerals.{numeral_within}
use Rattle.kts_top.specs.Options.{RunOptions, no_options, options_of}
use Rattle.kts_top.specs.Words.{is_word, is_file_word}

-- a command, with its file words and options
pub data Command : Type 0 where
  check : (spec : List ℕ) → Command
  classify : (spec : List ℕ) → Command
  generate : (spec : List ℕ) → Command
  run : (code table : List ℕ) → RunOptions → Command
  solve_data : (spec table : List ℕ) → RunOptions → Command
  solve : (spec : List ℕ) → RunOptions → Command
  audit : (spec table plan : List ℕ) → Command
  sample : (size : ℕ) → Command

-- the size of a sample is within its limits
abbrev pub IsSized : Command → Type 0
IsSized (sample size) = (1 ≤ size) × (size ≤ most_sample)
IsSized other = Unit {0}

-- the one file word
abbrev pub one_file : List (List ℕ) → Option (List ℕ)
one_file (spec ∷ []) = if is_file_word spec then Some spec else None
one_file _ = None

-- CODE DATA, and options
abbrev pub run_of : List (List ℕ) → Option Command
run_of (code ∷ table ∷ words) = if is_file_word code && is_file_word table then option_map (run code table) (options_of words) else None
run_of _ = None

-- after SPEC: maybe DATA, and options
abbrev pub solve_with : List ℕ → List (List ℕ) → Option Command
solve_with spec [] = Some (solve spec no_options)
solve_with spec (table ∷ words) =
    if is_file_word table then option_map (solve_data spec table) (options_of words)
    else option_map (solve spec) (options_of (table ∷ words))

-- SPEC, and what may follow it
abbrev pub solve_of : List (List ℕ) → Option Command
solve_of [] = None
solve_of (spec ∷ words) = if is_file_word spec then solve_with spec words else None

-- SPEC DATA PLAN
abbrev pub audit_of : List (List ℕ) → Option Command
audit_of (spec ∷ table ∷ plan ∷ []) = if is_file_word spec && (is_file_word table && is_file_word plan) then Some (audit spec table plan) else None
audit_of _ = None

-- N
abbrev pub sample_of : List (List ℕ) → Option Command
sample_of (size ∷ []) = option_map sample (numeral_within 1 most_sample size)
sample_of _ = None

-- the command of this name, by the words after it
abbrev pub command_named : List ℕ → List (List ℕ) → Option Command
command_named word words =
    if is_word word (codes "check") then option_map check (one_file words)
    else (if is_word word (codes "classify") then option_map classify (one_file words)
    else (if is_word word (codes "generate") then option_map generate (one_file words)
    else (if is_word word (codes "run") then run_of words
    else (if is_word word (codes "solve") then solve_of words
    else (if is_word word (codes "audit") then audit_of words
    else (if is_word word (codes "sample") then sample_of words
    else None))))))

-- the command of these words; None where they are no command
abbrev pub command_of : List (List ℕ) → Option Command
command_of [] = None
command_of (word ∷ words) = command_named word words
