-- Which statuses a command may owe.
use Rattle.std.specs.Prelude.{if◌then◌else◌}
use Rattle.std.proofs.Common.{◌≡◌, ◌≢◌, refl, sym, ◌∙◌, ap, ℕ, List, [], Bool, true, false, cond, Option, Some, None, Result, Ok, Err}
use Rattle.kts_base.specs.declared.status.Status.{Status}
use Rattle.kts_base.specs.declared.status.Status.TheVariants.{Done, Usage, Refused, NoMemory, ReadFault, Budget, Trap}
use Rattle.kts_check.specs.Specs.{spec_of}
use Rattle.kts_code.specs.declared.code.Code.{Code}
use Rattle.kts_code.specs.declared.modes.Mode.{Mode}
use Rattle.kts_code.specs.declared.modes.Mode.TheVariants.{Going, Halted, Trapped}
use Rattle.kts_code.specs.declared.modes.TrapKind.{TrapKind}
use Rattle.kts_code.specs.Machine.{oldest}
use Rattle.kts_code.specs.Setups.{setup_of}
use Rattle.kts_code.specs.States.{State}
use Rattle.kts_data.specs.Instances.{data_of}
use Rattle.kts_data.specs.Laws.{DataAreRead}
use Rattle.kts_data.specs.Plans.{plan_of}
use Rattle.kts_machine.specs.declared.outcome.Outcome.{Outcome}
use Rattle.kts_machine.specs.declared.outcome.Outcome.TheVariants as outcome
use Rattle.kts_machine.specs.Outcomes.{ended_as}
use Rattle.kts_machine.specs.Progress.{is_last, printed_in}
use Rattle.kts_machine.specs.ProgressLaws.{StoppedRunsAreRuns}
use Rattle.kts_read.specs.CodeFiles.{code_of}
use Rattle.kts_search.specs.WholeLaws.{WholeCodeSearches}
use Rattle.kts_search.specs.WholeScheme.{length_of_whole, whole_scheme}
use Rattle.kts_spec.specs.declared.instance.Instance.{Instance}
use Rattle.kts_spec.specs.declared.spec.Spec.{Spec}
use Rattle.kts_top.specs.Commands.{Command, check, classify, generate, run, solve_data, solve, audit, sample}
use Rattle.kts_top.specs.Contents.{content_of}
use Rattle.kts_top.specs.Lines.{Owed}
use Rattle.kts_top.specs.Options.{RunOptions, first_hundred, steps_of}
use Rattle.kts_top.specs.Owed.{Want, end, load, wanted, with_content, canonical, verdict, classification, classified, data_run, code_run, generation, generation_of, generated, program_of, answer_by, answer, data_answer, empty_object, with_data, code_wanted, solution_wanted, spec_solved, with_value, judgement, plan_judged, data_judged, data_wanted, spec_judged, fed, first_solved, sampled}
use Rattle.kts_top.specs.Refusals.{refusal, refused_code, refused_data, refused_plan}
use Rattle.kts_top.specs.Runs.{progress_with, outcome_with, last_of, owed_run}
use Rattle.kts_top.specs.SampleFiles.{sample_spec, sample_data}
use Rattle.kts_top.specs.Samples.{is_refused, summary, summarized}
use Rattle.kts_top.specs.declared.content_fault.ContentFault.{ContentFault}
use Rattle.kts_top.specs.declared.content_fault.ContentFault.TheVariants as content

-- ---- generated code

-- the code of a specification never traps on the instance that data say
abbrev pub CodeNeverTraps : Type 0
CodeNeverTraps =
    (spec : Spec) (code : Code) (options : RunOptions) (bytes : List ℕ) (inst : Instance) → whole_scheme spec ≡ Some code → data_of code.schema bytes ≡ Ok inst
    → (kind : TrapKind) (pc : ℕ) → outcome_with options (setup_of code inst) ≢ outcome.Trap kind pc

-- a run that ends so has trapped
trap_is : (first : Option ℕ) (mode : Mode) (n at : ℕ) (cause : TrapKind) (pc : ℕ) → ended_as first mode n at ≡ outcome.Trap cause pc → mode ≡ Trapped cause
trap_is first Going n at cause pc e = absurd (by (is_last first n) e)
  where
    by : (last : Bool) → (if last then outcome.Stopped n else outcome.Spent n) ≡ outcome.Trap cause pc → ⊥
    by true h = cc
    by false h = cc
trap_is first Halted n at cause pc e = absurd cc
trap_is first (Trapped other) n at cause pc e = cc

pub code_never_traps : WholeCodeSearches → DataAreRead → StoppedRunsAreRuns → CodeNeverTraps
code_never_traps searches data_read runs spec code options bytes inst has says kind pc traps =
    let m = setup_of code inst in
    let p = progress_with options m in
    let valid = ((data_read code.schema bytes inst).0 says).valid in
    let trapped : p.state.core.mode ≡ Trapped kind = trap_is options.first p.state.core.mode (printed_in p) p.state.core.pc kind pc traps in
    (searches.answers spec inst code has valid).safe oldest p.steps kind (sym (ap (λ (s : State). s.core.mode) (runs m options.first (steps_of options)).state) ∙ trapped)

-- ---- statuses

-- what is owed for content: none of these statuses, and the one of a trap only where code may trap
pub record IsSolving (Traps : Type 0) (status : Status) : Type 0 where
  pub not_usage : status ≢ Usage
  pub not_read : status ≢ ReadFault
  pub not_memory : status ≢ NoMemory
  pub traps : status ≡ Trap → Traps

-- so it is of each end that a command wants
abbrev pub Solves : Type 0 → Want → Type 0
Solves Traps (end owed) = IsSolving Traps owed.status
Solves Traps (load path next) = (bytes : List ℕ) → Solves Traps (next bytes)

module _ (Traps : Type 0) where
  done_kind : IsSolving Traps Done
  done_kind = record { not_usage = λ e. cc; not_read = λ e. cc; not_memory = λ e. cc; traps = λ e. absurd cc }

  pub refused_kind : IsSolving Traps Refused
  refused_kind = record { not_usage = λ e. cc; not_read = λ e. cc; not_memory = λ e. cc; traps = λ e. absurd cc }

  budget_kind : IsSolving Traps Budget
  budget_kind = record { not_usage = λ e. cc; not_read = λ e. cc; not_memory = λ e. cc; traps = λ e. absurd cc }

  -- the end of a run, by whether code may trap
  last_kind : (path : List ℕ) (ends : Outcome) → ((kind : TrapKind) (pc : ℕ) → ends ≡ outcome.Trap kind pc → Traps) → IsSolving Traps (last_of path ends).status
  last_kind path (outcome.Ended n) may = done_kind
  last_kind path (outcome.Stopped n) may = done_kind
  last_kind path (outcome.Spent n) may = budget_kind
  last_kind path (outcome.Trap kind pc) may = record { not_usage = λ e. cc; not_read = λ e. cc; not_memory = λ e. cc; traps = λ e. may kind pc refl }
  last_kind path outcome.WriteFault may = record { not_usage = λ e. cc; not_read = λ e. cc; not_memory = λ e. cc; traps = λ e. absurd cc }

  run_kind : (options : RunOptions) (code : Code) (inst : Instance)
      → ((kind : TrapKind) (pc : ℕ) → outcome_with options (setup_of code inst) ≡ outcome.Trap kind pc → Traps) → IsSolving Traps (owed_run options code inst).status
  unfolding owed_run
  run_kind options code inst may = last_kind _ (outcome_with options (setup_of code inst)) may

  -- ---- what is read

  refusal_kind : (fault : ContentFault) → IsSolving Traps (refusal fault).status
  refusal_kind (content.Trees fault) = refused_kind
  refusal_kind (content.Form fault) = refused_kind
  refusal_kind (content.Spec fault) = refused_kind

  content_kind : {A F : Type 0} (refused : F → Owed) (next : A → Owed) (read : Result A F) → ((fault : F) → IsSolving Traps (refused fault).status)
      → ((content : A) → read ≡ Ok content → IsSolving Traps (next content).status) → IsSolving Traps (with_content refused next read).status
  content_kind refused next (Ok content) faults kinds = kinds content refl
  content_kind refused next (Err fault) faults kinds = faults fault

  -- what is wanted by a file, by what is wanted by its content
  value_want : {A F : Type 0} (refused : F → Owed) (next : A → Want) (read : Result A F) → ((fault : F) → IsSolving Traps (refused fault).status)
      → ((content : A) → Solves Traps (next content)) → Solves Traps (with_value refused next read)
  value_want refused next (Ok content) faults kinds = kinds content
  value_want refused next (Err fault) faults kinds = faults fault

  -- ---- `check`, `classify` and `generate`

  verdict_kind : (bytes : List ℕ) → IsSolving Traps (verdict bytes).status
  unfolding verdict
  verdict_kind bytes = content_kind refusal canonical (content_of bytes) refusal_kind (λ content e. done_kind)

  classification_kind : (spec : Option Spec) → IsSolving Traps (classification spec).status
  classification_kind None = refused_kind
  classification_kind (Some spec) = done_kind

  classified_kind : (bytes : List ℕ) → IsSolving Traps (classified bytes).status
  unfolding classified
  classified_kind bytes =
      content_kind refusal (λ content. classification (spec_of content.parts)) (content_of bytes) refusal_kind (λ content e. classification_kind (spec_of content.parts))

  generation_kind : (length : ℕ) (code : Option Code) → IsSolving Traps (generation length code).status
  generation_kind length None = refused_kind
  generation_kind length (Some code) = done_kind

  generation_of_kind : (spec : Option Spec) → IsSolving Traps (generation_of spec).status
  generation_of_kind None = refused_kind
  generation_of_kind (Some spec) = generation_kind (length_of_whole spec) (whole_scheme spec)

  generated_kind : (bytes : List ℕ) → IsSolving Traps (generated bytes).status
  unfolding generated
  generated_kind bytes =
      content_kind refusal (λ content. generation_of (spec_of content.parts)) (content_of bytes) refusal_kind (λ content e. generation_of_kind (spec_of content.parts))

  -- ---- `audit`

  judgement_kind : (spec : Spec) (broken : Option ℕ) → IsSolving Traps (judgement spec broken).status
  judgement_kind spec None = done_kind
  judgement_kind spec (Some k) = done_kind

  plan_kind : (spec : Spec) (inst : Instance) (bytes : List ℕ) → IsSolving Traps (plan_judged spec inst bytes).status
  unfolding plan_judged
  plan_kind spec inst bytes = content_kind refused_plan _ (plan_of spec.schema inst bytes) (λ fault. refused_kind) (λ schedule e. judgement_kind spec _)

  data_want : (spec : Spec) (plan bytes : List ℕ) → Solves Traps (data_judged spec plan bytes)
  unfolding data_judged
  data_want spec plan bytes = value_want refused_data _ (data_of spec.schema bytes) (λ fault. refused_kind) (λ inst. plan_kind spec inst)

  made_want : (table plan : List ℕ) (spec : Option Spec) → Solves Traps (data_wanted table plan spec)
  made_want table plan None = refused_kind
  made_want table plan (Some spec) = data_want spec plan

  spec_want : (table plan bytes : List ℕ) → Solves Traps (spec_judged table plan bytes)
  unfolding spec_judged
  spec_want table plan bytes = value_want refusal _ (content_of bytes) refusal_kind (λ content. made_want table plan (spec_of content.parts))

  -- ---- `solve`

  module _ (safe : CodeNeverTraps) where
    by_kind : (spec : Spec) (inst : Instance) (ends : Outcome) → ((kind : TrapKind) (pc : ℕ) → ends ≡ outcome.Trap kind pc → Traps) → IsSolving Traps (answer_by spec inst ends).status
    by_kind spec inst (outcome.Ended n) may = done_kind
    by_kind spec inst (outcome.Stopped n) may = done_kind
    by_kind spec inst (outcome.Spent n) may = budget_kind
    by_kind spec inst (outcome.Trap kind pc) may = last_kind [] (outcome.Trap kind pc) may
    by_kind spec inst outcome.WriteFault may = last_kind [] outcome.WriteFault may

    either_kind : (test : Bool) (a b : Owed) → IsSolving Traps a.status → IsSolving Traps b.status → IsSolving Traps (if test then a else b).status
    either_kind true a b x y = x
    either_kind false a b x y = y

    answer_kind : (options : RunOptions) (spec : Spec) (code : Code) (bytes : List ℕ) → whole_scheme spec ≡ Some code → IsSolving Traps (data_answer options (program_of spec code) bytes).status
    unfolding data_answer answer
    answer_kind options spec code bytes has =
        content_kind refused_data (answer options (program_of spec code)) (data_of code.schema bytes) (λ fault. refused_kind)
        (λ inst says.
        let never = λ (kind : TrapKind) (pc : ℕ) (traps : outcome_with options (setup_of code inst) ≡ outcome.Trap kind pc).
        absurd (safe spec code options bytes inst has says kind pc traps) in
        either_kind options.trace (owed_run options code inst) (answer_by spec inst (outcome_with options (setup_of code inst)))
        (run_kind options code inst never) (by_kind spec inst (outcome_with options (setup_of code inst)) never))

    with_want : (table : Option (List ℕ)) (owes : List ℕ → Owed) → ((bytes : List ℕ) → IsSolving Traps (owes bytes).status) → Solves Traps (with_data table owes)
    with_want None owes kinds = kinds empty_object
    with_want (Some path) owes kinds = kinds

    code_want : (options : RunOptions) (table : Option (List ℕ)) (spec : Spec) (code : Option Code) → whole_scheme spec ≡ code → Solves Traps (code_wanted options table spec code)
    code_want options table spec None has = refused_kind
    code_want options table spec (Some code) has = with_want table (data_answer options (program_of spec code)) (λ bytes. answer_kind options spec code bytes has)

    solution_want : (options : RunOptions) (table : Option (List ℕ)) (spec : Option Spec) → Solves Traps (solution_wanted options table spec)
    solution_want options table None = refused_kind
    solution_want options table (Some spec) = code_want options table spec (whole_scheme spec) refl

    solved_want : (options : RunOptions) (table : Option (List ℕ)) (bytes : List ℕ) → Solves Traps (spec_solved options table bytes)
    unfolding spec_solved
    solved_want options table bytes =
        value_want refusal (λ content. solution_wanted options table (spec_of content.parts)) (content_of bytes) refusal_kind (λ content. solution_want options table (spec_of content.parts))

-- ---- `run`

-- code of a file may trap
ran_kind : (options : RunOptions) (code : Code) (bytes : List ℕ) → IsSolving (Unit {0}) (data_run options code bytes).status
unfolding data_run
ran_kind options code bytes =
    content_kind (Unit {0}) refused_data (owed_run options code) (data_of code.schema bytes) (λ fault. refused_kind (Unit {0})) (λ inst e. run_kind (Unit {0}) options code inst (λ kind pc traps. tt))

ran_want : (options : RunOptions) (table bytes : List ℕ) → Solves (Unit {0}) (code_run options table bytes)
unfolding code_run
ran_want options table bytes = value_want (Unit {0}) refused_code _ (code_of bytes) (λ fault. refused_kind (Unit {0})) (λ code. ran_kind options code)

-- ---- `sample`

-- what is owed for what is wanted, where each file has these bytes
fed_kind : (Traps : Type 0) (bytes : List ℕ) (want : Want) → Solves Traps want → IsSolving Traps (fed bytes want).status
fed_kind Traps bytes (end owed) kind = kind
fed_kind Traps bytes (load path next) kinds = fed_kind Traps bytes (next bytes) (kinds bytes)

-- a sum has the status of its run
summed_kind : (Traps : Type 0) (size : ℕ) (ran : Owed) → IsSolving Traps ran.status → IsSolving Traps (summarized size ran).status
summed_kind Traps size ran kind = by (is_refused ran.status)
  where
    by : (refused : Bool) → IsSolving Traps (cond refused ran (summary size ran)).status
    by true = kind
    by false = kind

sampled_kind : CodeNeverTraps → (size : ℕ) → IsSolving ⊥ (sampled size).status
unfolding sampled
sampled_kind safe size =
    summed_kind ⊥ size (first_solved sample_spec (sample_data size))
    (fed_kind ⊥ (sample_data size) (spec_solved first_hundred (Some []) sample_spec) (solved_want ⊥ safe first_hundred (Some []) sample_spec))

-- ---- commands

-- the command that runs the code of a file
abbrev pub IsRun : Command → Type 0
IsRun (run code table options) = Unit {0}
IsRun other = ⊥

pub wanted_kind : CodeNeverTraps → (command : Command) → Solves (IsRun command) (wanted command)
wanted_kind safe (check spec) = verdict_kind ⊥
wanted_kind safe (classify spec) = classified_kind ⊥
wanted_kind safe (generate spec) = generated_kind ⊥
wanted_kind safe (run code table options) = ran_want options table
wanted_kind safe (solve_data spec table options) = solved_want ⊥ safe options (Some table)
wanted_kind safe (solve spec options) = solved_want ⊥ safe options None
wanted_kind safe (audit spec table plan) = spec_want ⊥ table plan
wanted_kind safe (sample size) = sampled_kind safe size
