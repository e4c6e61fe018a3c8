-- What each command owes: its status and its bytes, by what its files hold.
use Rattle.std.specs.Prelude.{ℕ, ◌+◌, List, [], ◌++◌, codes, length, take, slice_index_or, nat_le, if◌then◌else◌, Option, Some, None, Result, Ok, Err}
use Rattle.kts_base.specs.declared.status.Status.TheVariants as status
use Rattle.kts_base.specs.Limits.{most_file_bytes}
use Rattle.kts_check.specs.Specs.{spec_of}
use Rattle.kts_code.specs.declared.code.Code.{Code}
use Rattle.kts_code.specs.CodeTexts.{code_text}
use Rattle.kts_code.specs.Setups.{setup_of}
use Rattle.kts_data.specs.Instances.{data_of}
use Rattle.kts_data.specs.Plans.{plan_of}
use Rattle.kts_machine.specs.declared.outcome.Outcome.{Outcome}
use Rattle.kts_machine.specs.declared.outcome.Outcome.TheVariants.{Ended, Stopped, Spent}
use Rattle.kts_mean.specs.Broken.{first_broken}
use Rattle.kts_read.specs.CodeFiles.{code_of}
use Rattle.kts_search.specs.WholeScheme.{length_of_whole, whole_scheme}
use Rattle.kts_spec.specs.declared.ending.Ending.TheVariants.{First}
use Rattle.kts_spec.specs.declared.instance.Instance.{Instance}
use Rattle.kts_spec.specs.declared.spec.Spec.{Spec}
use Rattle.kts_spec.specs.Answers.{answer as answers}
use Rattle.kts_spec.specs.Specifications.{formula_names}
use Rattle.kts_spec.specs.Texts.{newline, text, due, begun}
use Rattle.kts_syntax.specs.Texts.{forms_text}
use Rattle.kts_top.specs.ClassifyTexts.{classification_text}
use Rattle.kts_top.specs.Commands.{Command, check, classify, generate, run, solve_data, solve, audit, sample, command_of}
use Rattle.kts_top.specs.Contents.{Content, content_of}
use Rattle.kts_top.specs.Lines.{Owed, usage, fault_read, refused_file, refused_length}
use Rattle.kts_top.specs.Options.{RunOptions, first_hundred}
use Rattle.kts_top.specs.Refusals.{refusal, refused_code, refused_data, refused_plan}
use Rattle.kts_top.specs.Runs.{outcome_with, last_of, owed_run}
use Rattle.kts_top.specs.SampleFiles.{sample_spec, sample_data}
use Rattle.kts_top.specs.Samples.{summarized}

-- what a command wants next: to end so, or the bytes of a file, by which it goes on
pub data Want : Type 0 where
  end : Owed → Want
  load : (path : List ℕ) → (next : List ℕ → Want) → Want

-- ---- `check`

-- what is owed for the content of a file, or the refusal of its fault
abbrev pub with_content : {A F : Type 0} → (F → Owed) → (A → Owed) → Result A F → Owed
with_content refused next (Ok content) = next content
with_content refused next (Err fault) = refused fault

-- the canonical text of forms
abbrev pub canonical : Content → Owed
canonical content = record { status = status.Done; bytes = forms_text content.ast }

-- what `check` owes for the bytes of its file: the canonical text of well typed forms
unfoldable pub verdict : List ℕ → Owed
verdict bytes = with_content refusal canonical (content_of bytes)

-- ---- `classify`

-- Well typed forms without a specification would be refused so: there are none.
abbrev pub no_specification : Owed
no_specification = record { status = status.Refused; bytes = codes "refused spec\n" }

-- the classification of a specification, which every well typed file has
abbrev pub classification : Option Spec → Owed
classification None = no_specification
classification (Some spec) = record { status = status.Done; bytes = classification_text spec }

-- what `classify` owes for the bytes of its file: the classification of the specification of well typed forms
unfoldable pub classified : List ℕ → Owed
classified bytes = with_content refusal (λ content. classification (spec_of content.parts)) (content_of bytes)

-- ---- running code

-- what is wanted by the content of a file, or the end with the refusal of its fault
abbrev pub with_value : {A F : Type 0} → (F → Owed) → (A → Want) → Result A F → Want
with_value refused next (Ok content) = next content
with_value refused next (Err fault) = end (refused fault)

-- what is owed for the bytes of data: the run of the code on the instance that they say
unfoldable pub data_run : RunOptions → Code → List ℕ → Owed
data_run options code bytes = with_content refused_data (owed_run options code) (data_of code.schema bytes)

-- what is wanted by the bytes of a code file: the data at a path
unfoldable pub code_run : RunOptions → List ℕ → List ℕ → Want
code_run options table bytes = with_value refused_code (λ code. load table (λ bytes. end (data_run options code bytes))) (code_of bytes)

-- ---- `generate`

-- the text of the code of a specification, or the refusal of its length
abbrev pub generation : ℕ → Option Code → Owed
generation length None = refused_length length
generation length (Some code) = record { status = status.Done; bytes = code_text code }

-- what is owed for a specification, which every well typed file has
abbrev pub generation_of : Option Spec → Owed
generation_of None = no_specification
generation_of (Some spec) = generation (length_of_whole spec) (whole_scheme spec)

-- what `generate` owes for the bytes of its file: the code of the specification of well typed forms
unfoldable pub generated : List ℕ → Owed
generated bytes = with_content refusal (λ content. generation_of (spec_of content.parts)) (content_of bytes)

-- ---- `solve`

-- a specification with its code
pub record Program : Type 0 where
  pub spec : Spec
  pub code : Code

abbrev pub program_of : Spec → Code → Program
program_of spec code = record { spec = spec; code = code }

-- what is owed on an instance by how the run ended: the whole answer; or its first schedules, as many as were asked for, or as
-- the run has found within its steps; a run of a program ends in no other way
abbrev pub answer_by : Spec → Instance → Outcome → Owed
answer_by spec inst (Ended n) = record { status = status.Done; bytes = due spec inst }
answer_by spec inst (Stopped n) = record { status = status.Done; bytes = text spec.schema inst (take n (answers spec inst)) (First n) }
answer_by spec inst (Spent n) = record { status = status.Budget; bytes = begun spec inst n }
answer_by spec inst other = last_of [] other

-- what a program owes on an instance with these options: the answer, or, where nodes are asked for, all that its run shows
unfoldable pub answer : RunOptions → Program → Instance → Owed
answer options program inst =
    if options.trace then owed_run options program.code inst
    else answer_by program.spec inst (outcome_with options (setup_of program.code inst))

-- what is owed for the bytes of data: the answer on the instance that they say
unfoldable pub data_answer : RunOptions → Program → List ℕ → Owed
data_answer options program bytes = with_content refused_data (answer options program) (data_of program.code.schema bytes)

-- the data of a command without a data file
abbrev pub empty_object : List ℕ
empty_object = codes "{}"

-- what is wanted with data: the file at a path, or what is owed without one
abbrev pub with_data : Option (List ℕ) → (List ℕ → Owed) → Want
with_data None owes = end (owes empty_object)
with_data (Some path) owes = load path (λ bytes. end (owes bytes))

-- what is wanted for a specification by its code, where it isn't too long
abbrev pub code_wanted : RunOptions → Option (List ℕ) → Spec → Option Code → Want
code_wanted options table spec None = end (refused_length (length_of_whole spec))
code_wanted options table spec (Some code) = with_data table (data_answer options (program_of spec code))

-- what is wanted for a specification, which every well typed file has
abbrev pub solution_wanted : RunOptions → Option (List ℕ) → Option Spec → Want
solution_wanted options table None = end no_specification
solution_wanted options table (Some spec) = code_wanted options table spec (whole_scheme spec)

-- what is wanted by the bytes of a specification, with these options: the data at a path, where there is one
unfoldable pub spec_solved : RunOptions → Option (List ℕ) → List ℕ → Want
spec_solved options table bytes = with_value refusal (λ content. solution_wanted options table (spec_of content.parts)) (content_of bytes)

-- ---- `audit`

-- whether a schedule keeps every formula, or the name of the first that it breaks
abbrev pub judgement : Spec → Option ℕ → Owed
judgement spec None = record { status = status.Done; bytes = codes "kept" ++ newline }
judgement spec (Some k) = record { status = status.Done; bytes = codes "broken " ++ (slice_index_or (formula_names spec.formulas) k [] ++ newline) }

-- what is owed for the bytes of a plan
unfoldable pub plan_judged : Spec → Instance → List ℕ → Owed
plan_judged spec inst bytes = with_content refused_plan (λ schedule. judgement spec (first_broken spec inst schedule)) (plan_of spec.schema inst bytes)

-- what is wanted by the bytes of data: the plan at a path, where they say an instance
unfoldable pub data_judged : Spec → List ℕ → List ℕ → Want
data_judged spec plan bytes = with_value refused_data (λ inst. load plan (λ bytes. end (plan_judged spec inst bytes))) (data_of spec.schema bytes)

-- what is wanted for a specification, which every well typed file has: the data at a path
abbrev pub data_wanted : List ℕ → List ℕ → Option Spec → Want
data_wanted table plan None = end no_specification
data_wanted table plan (Some spec) = load table (data_judged spec plan)

-- what is wanted by the bytes of a specification
unfoldable pub spec_judged : List ℕ → List ℕ → List ℕ → Want
spec_judged table plan bytes = with_value refusal (λ content. data_wanted table plan (spec_of content.parts)) (content_of bytes)

-- ---- `sample`

-- what is owed where each file that is wanted has these bytes
abbrev pub fed : List ℕ → Want → Owed
fed bytes (end owed) = owed
fed bytes (load path next) = fed bytes (next bytes)

-- what `solve --first 100` owes for a specification and data of these bytes
abbrev pub first_solved : List ℕ → List ℕ → Owed
first_solved bytes table = fed table (spec_solved first_hundred (Some []) bytes)

-- the summary of that for the sample files of a size
unfoldable pub sampled : ℕ → Owed
sampled size = summarized size (first_solved sample_spec (sample_data size))

-- ---- commands

-- what a command wants
abbrev pub wanted : Command → Want
wanted (check spec) = load spec (λ bytes. end (verdict bytes))
wanted (classify spec) = load spec (λ bytes. end (classified bytes))
wanted (generate spec) = load spec (λ bytes. end (generated bytes))
wanted (run code table options) = load code (code_run options table)
wanted (solve_data spec table options) = load spec (spec_solved options (Some table))
wanted (solve spec options) = load spec (spec_solved options None)
wanted (audit spec table plan) = load spec (spec_judged table plan)
wanted (sample size) = end (sampled size)

-- what is owed for the file of number k, by its bytes where it is held
abbrev pub with_file : ℕ → Option (List ℕ) → (List ℕ → Owed) → Owed
with_file k None next = fault_read k
with_file k (Some bytes) next = if nat_le (length bytes) most_file_bytes then next bytes else refused_file k

-- what is owed for what is wanted, by what each load gives, where the next file has the number k
abbrev pub owed_from : ℕ → (ℕ → List ℕ → Option (List ℕ)) → Want → Owed
owed_from k held (end owed) = owed
owed_from k held (load path next) = with_file k (held k path) (λ bytes. owed_from (k + 1) held (next bytes))

abbrev pub want_of : Option Command → Want
want_of None = end usage
want_of (Some command) = wanted command

-- what is owed for these words, by what is held under each path when the file of a number is loaded
abbrev pub owed : List (List ℕ) → (ℕ → List ℕ → Option (List ℕ)) → Owed
owed words held = owed_from 1 held (want_of (command_of words))
