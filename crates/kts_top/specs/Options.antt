-- The options of `run` and `solve`, read from the words after their files.
use Rattle.std.specs.Prelude.{ℕ, List, [], ◌∷◌, Bool, true, false, Option, Some, None, option_map, option_and_then, unwrap_or, codes, if◌then◌else◌}
use Rattle.kts_base.specs.Numerals.{numeral_within}
use Rattle.kts_base.specs.Limits.{default_budget, most_budget, most_first}
use Rattle.kts_top.specs.Words.{is_word}

-- what is told: the steps of a run, the schedules to stop after, and whether each node is printed
pub record RunOptions : Type 0 where
  pub budget : Option ℕ
  pub first : Option ℕ
  pub trace : Bool

abbrev pub no_options : RunOptions
no_options = record { budget = None; first = None; trace = false }

-- the first hundred schedules, within the steps that are taken where none are told
abbrev pub first_hundred : RunOptions
first_hundred = record { budget = None; first = Some 100; trace = false }

-- with the budget of this word, where none was told before
abbrev pub budget_beside : Option ℕ → Option ℕ → Bool → List ℕ → Option RunOptions
budget_beside (Some told) first trace word = None
budget_beside None first trace word = option_map (λ n. let o : RunOptions = record { budget = Some n; first = first; trace = trace } in o) (numeral_within 0 most_budget word)

abbrev pub with_budget : RunOptions → List ℕ → Option RunOptions
with_budget options word = budget_beside options.budget options.first options.trace word

-- with the number of schedules of this word, where none was told before
abbrev pub first_beside : Option ℕ → Option ℕ → Bool → List ℕ → Option RunOptions
first_beside budget (Some told) trace word = None
first_beside budget None trace word = option_map (λ n. let o : RunOptions = record { budget = budget; first = Some n; trace = trace } in o) (numeral_within 1 most_first word)

abbrev pub with_first : RunOptions → List ℕ → Option RunOptions
with_first options word = first_beside options.budget options.first options.trace word

-- with the nodes, where they weren't told before
abbrev pub with_trace : RunOptions → Option RunOptions
with_trace options = if options.trace then None else Some (record { budget = options.budget; first = options.first; trace = true })

-- with an option of this name that is told by a number
abbrev pub with_number : RunOptions → List ℕ → List ℕ → Option RunOptions
with_number options name word =
    if is_word name (codes "--budget") then with_budget options word
    else (if is_word name (codes "--first") then with_first options word else None)

-- the options of these words, beside those that were told before
abbrev pub options_after : RunOptions → List (List ℕ) → Option RunOptions
options_after options [] = Some options
options_after options (name ∷ []) = if is_word name (codes "--trace") then with_trace options else None
options_after options (name ∷ word ∷ words) =
    if is_word name (codes "--trace") then option_and_then (λ told. options_after told (word ∷ words)) (with_trace options)
    else option_and_then (λ told. options_after told words) (with_number options name word)

-- the options of these words; None where they are no options, or one is told twice
abbrev pub options_of : List (List ℕ) → Option RunOptions
options_of words = options_after no_options words

-- the steps of a run with these options
abbrev pub steps_of : RunOptions → ℕ
steps_of options = unwrap_or options.budget default_budget
