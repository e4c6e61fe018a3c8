-- Each well typed file is solved by the run of its code, audited and classified.
use Rattle.std.proofs.Common.{◌≡◌, refl, ap, ◌∙◌, subst, ℕ, ◌<◌, ◌≤◌, arith, List, true, Option, None, Some, Ok, Err, Result}
use Rattle.std.proofs.Math.Path.{fun_ext}
use Rattle.kts_base.specs.Limits.{most_instructions, most_nesting}
use Rattle.kts_check.specs.Faults.{Judged}
use Rattle.kts_check.specs.Forms.{Parts, parts_of}
use Rattle.kts_check.specs.Specs.{IsSpecified}
use Rattle.kts_code.specs.declared.code.Code.{Code}
use Rattle.kts_code.specs.CodeTexts.{code_text}
use Rattle.kts_data.specs.declared.fault.DataFault.{DataFault}
use Rattle.kts_data.specs.Instances.{data_of}
use Rattle.kts_data.specs.Laws.{DataAreRead}
use Rattle.kts_machine.specs.ProgressLaws.{StoppedRunsAreRuns, WholeRunsAreRuns}
use Rattle.kts_read.specs.CodeFiles.{CodeFiles}
use Rattle.kts_search.specs.WholeLaws.{WholeCodeIsThere, WholeCodeSearches}
use Rattle.kts_search.specs.WholeScheme.{length_of_whole, whole_scheme}
use Rattle.kts_spec.specs.declared.instance.Instance.{Instance}
use Rattle.kts_spec.specs.declared.spec.Spec.{Spec}
use Rattle.kts_syntax.specs.Fitting.{ast_fits}
use Rattle.kts_syntax.specs.Sizes.{forms_nest}
use Rattle.kts_syntax.specs.Tops.{Ast, forms_of}
use Rattle.kts_syntax.specs.Faults.{FormFault}
use Rattle.kts_text.specs.Forest.{Forest, nest}
use Rattle.kts_text.specs.Reads.{trees_of}
use Rattle.kts_text.specs.Faults.{TreeFault}
use Rattle.kts_top.specs.Contents.{Content, with_parts, from_forms, from_trees, content_of}
use Rattle.kts_top.specs.Options.{RunOptions}
use Rattle.kts_top.specs.Owed.{end, load, with_content, with_value, program_of, answer, data_answer, data_run, code_run, generated, spec_solved, classified, spec_judged}
use Rattle.kts_top.specs.Refusals.{refused_code, refused_data}
use Rattle.kts_top.specs.Runs.{owed_run}
use Rattle.kts_top.specs.TypedFiles.{TypedFilesAreAudited, TypedFilesAreClassified, TypedFilesAreSolved}
use Rattle.kts_top.proofs.ProgramAnswers.{run_is_answer}
use Rattle.kts_top.proofs.ProgramWalks.{shows_walk, ends_whole}

-- ---- what was read of a file

pub record HasForms (bytes : List ℕ) (c : Content) : Type 0 where
  pub trees : Forest
  pub trees_are : trees_of bytes ≡ Ok trees
  pub forms_are : forms_of trees ≡ Ok c.ast
  pub parts_are : parts_of c.ast ≡ Ok c.parts

of_types : (bytes : List ℕ) (trees : Forest) (ast : Ast) (judged : Judged Parts) (c : Content) → trees_of bytes ≡ Ok trees → forms_of trees ≡ Ok ast → parts_of ast ≡ judged → with_parts ast judged ≡ Ok c → HasForms bytes c
of_types bytes trees ast (Ok parts) c t f p e =
    let here : Content = record { ast = ast; parts = parts } in
    let same : here ≡ c = cc in
    subst (HasForms bytes) same (record { trees = trees; trees_are = t; forms_are = f; parts_are = p })
of_types bytes trees ast (Err fault) c t f p e = absurd cc

of_forms : (bytes : List ℕ) (trees : Forest) (forms : Result Ast FormFault) (c : Content) → trees_of bytes ≡ Ok trees → forms_of trees ≡ forms → from_forms forms ≡ Ok c → HasForms bytes c
of_forms bytes trees (Ok ast) c t f e = of_types bytes trees ast (parts_of ast) c t f refl e
of_forms bytes trees (Err fault) c t f e = absurd cc

of_trees : (bytes : List ℕ) (trees : Result Forest TreeFault) (c : Content) → trees_of bytes ≡ trees → from_trees trees ≡ Ok c → HasForms bytes c
of_trees bytes (Ok trees) c t e = of_forms bytes trees (forms_of trees) c t refl e
of_trees bytes (Err fault) c t e = absurd cc

pub is_read : (bytes : List ℕ) (c : Content) → content_of bytes ≡ Ok c → HasForms bytes c
unfolding content_of
is_read bytes c e = of_trees bytes (trees_of bytes) c refl e

module _ (shallow : (bytes : List ℕ) (trees : Forest) → trees_of bytes ≡ Ok trees → nest trees ≤ most_nesting) (fit : (trees : Forest) (read : Ast) → forms_of trees ≡ Ok read → ast_fits read ≡ true)
    (low : (trees : Forest) (read : Ast) → forms_of trees ≡ Ok read → forms_nest read.forms ≤ nest trees)
    (specified : (content : Ast) (p : Parts) → ast_fits content ≡ true → forms_nest content.forms ≤ most_nesting → parts_of content ≡ Ok p → IsSpecified p) where
  specified_here : (bytes : List ℕ) (c : Content) → HasForms bytes c → IsSpecified c.parts
  specified_here bytes c read =
      let deep = shallow bytes read.trees read.trees_are in
      let nested = low read.trees c.ast read.forms_are in
      specified c.ast c.parts (fit read.trees c.ast read.forms_are) (omega arith) read.parts_are

  pub typed_audited : TypedFilesAreAudited
  unfolding spec_judged
  typed_audited bytes c read =
      let is = specified_here bytes c (is_read bytes c read) in
      (is.spec, is.is, λ table plan. rw (read, is.is) refl)

  pub typed_classified : TypedFilesAreClassified
  unfolding classified
  typed_classified bytes c read =
      let is = specified_here bytes c (is_read bytes c read) in
      (is.spec, is.is, rw (read, is.is) refl)

  module _ (there : WholeCodeIsThere) (searched : WholeCodeSearches) (whole_runs : WholeRunsAreRuns) (stopped : StoppedRunsAreRuns) (data_read : DataAreRead) (files : CodeFiles) where
    -- too long a specification has no code
    no_code : (spec : Spec) (code : Option Code) → whole_scheme spec ≡ code → most_instructions < length_of_whole spec → whole_scheme spec ≡ None
    no_code spec None e long = e
    no_code spec (Some code) e long = absurd (omega (arith, long, there.few spec code e))

    module _ (spec : Spec) (code : Code) (made : whole_scheme spec ≡ Some code) (options : RunOptions) where
      -- on all data the run owes the answer
      data_same : (told : List ℕ) → data_run options code told ≡ data_answer options (program_of spec code) told
      unfolding data_run data_answer
      data_same told = by (data_of code.schema told) refl
        where
          by : (read : Result Instance DataFault) → data_of code.schema told ≡ read
              → with_content refused_data (owed_run options code) read ≡ with_content refused_data (answer options (program_of spec code)) read
          by (Ok inst) e = run_is_answer spec code inst made (searched.answers spec inst code made ((data_read code.schema told inst).0 e).valid) stopped options
          by (Err fault) e = refl

      -- so the text of the code wants them
      text_runs : (table : List ℕ) → code_run options table (code_text code) ≡ load table (λ told. end (data_answer options (program_of spec code) told))
      unfolding code_run
      text_runs table =
          ap (with_value refused_code (λ c. load table (λ told. end (data_run options c told)))) ((files.code (code_text code) code).1 refl)
          ∙ ap (load table) (fun_ext (λ told. ap end (data_same told)))

    pub typed_solved : TypedFilesAreSolved
    unfolding spec_solved data_answer generated
    typed_solved bytes c read =
        let is = specified_here bytes c (is_read bytes c read) in
        record {
          spec = is.spec;
          spec_is = is.is;
          short = (λ short. let made = there.has is.spec short in record {
            code = made.0;
            code_is = made.1;
            writes = rw (read, is.is, made.1) refl;
            wants = (λ options table. rw (read, is.is, made.1) refl);
            owes = (λ options table inst says. rw says refl);
            runs = text_runs is.spec made.0 made.1;
            shows = (λ options inst valid. shows_walk searched is.spec made.0 inst made.1 valid options stopped);
            ends = (λ options inst valid. ends_whole searched is.spec made.0 inst made.1 valid options whole_runs);
          });
          long = (λ long options table. rw (read, is.is, no_code is.spec (whole_scheme is.spec) refl long) refl);
          unwritten = (λ long. rw (read, is.is, no_code is.spec (whole_scheme is.spec) refl long) refl);
        }
