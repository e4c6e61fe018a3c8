-- What a run of a program's code owes is what its specification owes.
use Rattle.std.proofs.Common.{◌≡◌, refl, sym, ap, ◌∙◌, subst, ℕ, ◌+◌, List, [], ◌∷◌, ◌++◌, append-nil, length, take, Bool, true, false, if◌then◌else◌, Option, Some, None}
use Rattle.std.specs.Prelude.{ℤ, option_and_then}
use Rattle.kts_base.specs.declared.status.Status.{Status}
use Rattle.kts_base.specs.declared.status.Status.TheVariants as status
use Rattle.kts_code.specs.declared.code.Code.{Code}
use Rattle.kts_code.specs.declared.instructions.Instr.{Instr}
use Rattle.kts_code.specs.declared.modes.Mode.{Mode}
use Rattle.kts_code.specs.declared.modes.Mode.TheVariants.{Going, Halted, Trapped}
use Rattle.kts_code.specs.Machine.{run_of, oldest}
use Rattle.kts_code.specs.Printed.{schedules_of, items_text}
use Rattle.kts_code.specs.Prints.{Prints}
use Rattle.kts_code.specs.Setups.{Setup, setup_of}
use Rattle.kts_code.specs.States.{State}
use Rattle.kts_code.specs.WellFormed.{is_code}
use Rattle.kts_code.proofs.ItemTexts.{untraced}
use Rattle.kts_index.specs.declared.pattern.Pattern.{Pattern}
use Rattle.kts_index.specs.TaskBound.{bound}
use Rattle.kts_machine.specs.declared.outcome.Outcome.TheVariants.{Stopped, Spent}
use Rattle.kts_machine.specs.Outcomes.{ended_as}
use Rattle.kts_machine.specs.Progress.{Progress, is_last}
use Rattle.kts_machine.specs.ProgressLaws.{StoppedRunsAreRuns}
use Rattle.kts_plan.specs.Constraints.{prefixes_of}
use Rattle.kts_plan.specs.Plans.{clauses_of_spec}
use Rattle.kts_search.specs.WholeScheme.{schema_if, schema_with, code_if, code_by, whole_code, whole_scheme}
use Rattle.kts_spec.specs.declared.ending.Ending.{Ending}
use Rattle.kts_spec.specs.declared.ending.Ending.TheVariants.{End, First, Budget}
use Rattle.kts_spec.specs.declared.instance.Instance.{Instance}
use Rattle.kts_spec.specs.declared.schema.Schema.{Schema}
use Rattle.kts_spec.specs.declared.spec.Spec.{Spec}
use Rattle.kts_spec.specs.Answers.{answer as answers}
use Rattle.kts_spec.specs.Schemas.{is_schema}
use Rattle.kts_spec.specs.Texts.{schedule_text, schedules_text, ending_text}
use Rattle.kts_top.specs.Lines.{Owed}
use Rattle.kts_top.specs.Options.{RunOptions, steps_of}
use Rattle.kts_top.specs.Owed.{program_of, answer_by, answer}
use Rattle.kts_top.specs.Runs.{progress_with, outcome_with, shown_path, last_of, with_text, owed_in, owed_run}

-- ---- texts by the schema of a program's code

-- schedules have the same text by these two schemas
abbrev SameTexts : Schema → Schema → Type 0
SameTexts a b = (inst : Instance) (k : ℕ) (list : List (List ℤ)) → schedules_text a inst k list ≡ schedules_text b inst k list

-- tasks change nothing of it
schema_made_if : (s : Schema) (tasks : List (List ℕ)) (schema : Schema) (test : Bool) (e : is_schema s.name s.decls s.indexes s.givens s.choices tasks ≡ test)
    → schema_if s tasks test e ≡ Some schema → SameTexts schema s
schema_made_if s tasks schema true e is =
    let same : made ≡ schema = cc in
    subst (λ (x : Schema). SameTexts x s) same rows
  where
    made : Schema
    made = record { name = s.name; decls = s.decls; indexes = s.indexes; givens = s.givens; choices = s.choices; tasks = tasks; is_schema = e }

    rows : SameTexts made s
    rows inst k [] = refl
    rows inst k (schedule ∷ rest) = ap (λ text. schedule_text s inst k schedule ++ text) (rows inst (k + 1) rest)
schema_made_if s tasks schema false e is = cc

schema_made : (s : Schema) (tasks : List (List ℕ)) (schema : Schema) → schema_with s tasks ≡ Some schema → SameTexts schema s
unfolding schema_with
schema_made s tasks schema e = schema_made_if s tasks schema _ refl e

-- code that was made has this schema
code_made_if : (schema : Schema) (entries : List ℕ) (patterns : List Pattern) (stack : ℕ) (instrs : List Instr) (code : Code) (test : Bool)
    (e : is_code schema entries patterns stack instrs ≡ test) → code_if schema entries patterns stack instrs test e ≡ Some code → schema ≡ code.schema
code_made_if schema entries patterns stack instrs code true e is =
    let made : Code = record { schema = schema; entries = entries; index = patterns; stack = stack; instrs = instrs; is_code = e } in
    let same : made ≡ code = cc in
    ap (λ (x : Code). x.schema) same
code_made_if schema entries patterns stack instrs code false e is = cc

code_made : (schema : Schema) (entries : List ℕ) (patterns : List Pattern) (stack : ℕ) (instrs : List Instr) (code : Code)
    → code_by schema entries patterns stack instrs ≡ Some code → schema ≡ code.schema
unfolding code_by
code_made schema entries patterns stack instrs code e = code_made_if schema entries patterns stack instrs code _ refl e

-- so they have it by the schema of the code and by that of the specification
same_texts : (spec : Spec) (code : Code) → whole_scheme spec ≡ Some code → SameTexts code.schema spec.schema
same_texts spec code = by (schema_with spec.schema tasks) refl
  where
    tasks : List (List ℕ)
    tasks = prefixes_of (clauses_of_spec spec)

    by : (o : Option Schema) → schema_with spec.schema tasks ≡ o → option_and_then (whole_code spec) o ≡ Some code → SameTexts code.schema spec.schema
    by None e is = cc
    by (Some schema) e is = subst (λ (x : Schema). SameTexts x spec.schema) (code_made schema _ _ _ _ code is) (schema_made spec.schema tasks schema e)

-- ---- the answer

front_taken : {X : Type 0} (xs ys : List X) → take (length xs) (xs ++ ys) ≡ xs
front_taken [] ys = refl
front_taken (x ∷ xs) ys = ap (λ l. x ∷ l) (front_taken xs ys)

module _ (spec : Spec) (code : Code) (inst : Instance) (made : whole_scheme spec ≡ Some code) (prints : Prints (setup_of code inst) (answers spec inst))
    (stopped : StoppedRunsAreRuns) (options : RunOptions) where
  abbrev m : Setup
  m = setup_of code inst

  abbrev ran : Progress
  ran = progress_with options m

  abbrev reached : State
  reached = run_of m oldest ran.steps

  reached_is : ran.state ≡ reached
  reached_is = (stopped m options.first (steps_of options)).state

  -- what is printed
  abbrev printed : List (List ℤ)
  printed = schedules_of ran.state.items

  abbrev count : ℕ
  count = length printed

  -- the text of it
  abbrev shown : List ℕ
  shown = items_text false code.schema inst 0 ran.state.items

  printed_is : schedules_of reached.items ≡ printed
  printed_is = ap (λ (s : State). schedules_of s.items) (sym reached_is)

  mode_is : (mode : Mode) → ran.state.core.mode ≡ mode → reached.core.mode ≡ mode
  mode_is mode e = ap (λ (s : State). s.core.mode) (sym reached_is) ∙ e

  -- the first schedules of the answer
  taken : printed ≡ take count (answers spec inst)
  taken =
      let front = prints.front oldest ran.steps in
      let is : answers spec inst ≡ printed ++ front.0 = front.1 ∙ ap (λ l. l ++ front.0) printed_is in
      sym (ap (take count) is ∙ front_taken printed front.0)

  text_of : (list : List (List ℤ)) → printed ≡ list → shown ≡ schedules_text spec.schema inst 1 list
  text_of list e = untraced code.schema inst 0 ran.state.items ∙ same_texts spec code made inst 1 printed ∙ ap (schedules_text spec.schema inst 1) e

  abbrev told : Status → List ℕ → Owed
  told k bytes = record { status = k; bytes = bytes }

  -- what is owed in a mode, and what is to be owed
  abbrev owed_as : Mode → Owed
  owed_as mode = with_text shown (last_of [] (ended_as options.first mode count ran.state.core.pc))

  abbrev answer_as : Mode → Owed
  answer_as mode = answer_by spec inst (ended_as options.first mode count ran.state.core.pc)

  -- the first schedules, and an end
  begun : (k : Status) (ending : Ending) → told k (shown ++ ending_text ending) ≡ told k (schedules_text spec.schema inst 1 (take count (answers spec inst)) ++ ending_text ending)
  begun k ending = ap (λ bytes. told k (bytes ++ ending_text ending)) (text_of (take count (answers spec inst)) taken)

  going : (last : Bool) → with_text shown (last_of [] (if last then Stopped count else Spent count)) ≡ answer_by spec inst (if last then Stopped count else Spent count)
  going true = begun status.Done (First count)
  going false = begun status.Budget (Budget count)

  by_mode : (mode : Mode) → ran.state.core.mode ≡ mode → owed_as mode ≡ answer_as mode
  by_mode Going e = going (is_last options.first count)
  by_mode Halted e =
      let whole : printed ≡ answers spec inst = sym printed_is ∙ prints.whole oldest ran.steps (mode_is Halted e) in
      ap (λ bytes. told status.Done (shown ++ bytes)) (append-nil (ending_text (End count)))
      ∙ ap (λ bytes. told status.Done (bytes ++ ending_text (End count))) (text_of (answers spec inst) whole)
      ∙ ap (λ (list : List (List ℤ)). told status.Done (schedules_text spec.schema inst 1 (answers spec inst) ++ ending_text (End (length list)))) whole
  by_mode (Trapped kind) e = absurd (prints.safe oldest ran.steps kind (mode_is (Trapped kind) e))

  -- what a run owes, where nodes are shown or aren't
  abbrev owed_with : Bool → Owed
  owed_with trace =
      with_text (items_text trace code.schema inst 0 ran.state.items)
      (last_of (shown_path (if trace then Some (ran.longest, bound code.index code.schema inst) else None)) (outcome_with options m))

  abbrev answer_with : Bool → Owed
  answer_with trace = if trace then owed_in options m else answer_by spec inst (outcome_with options m)

  by_trace : (trace : Bool) → options.trace ≡ trace → owed_in options m ≡ answer_with trace
  by_trace true e = refl
  by_trace false e = ap owed_with e ∙ by_mode ran.state.core.mode refl

  pub run_is_answer : owed_run options code inst ≡ answer options (program_of spec code) inst
  unfolding owed_run answer
  run_is_answer = by_trace options.trace refl
