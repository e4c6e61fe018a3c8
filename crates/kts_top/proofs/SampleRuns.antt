-- The summary of a run: how it ends by the specification, the data and the outcome of the run.
use Rattle.std.proofs.Common.{◌≡◌, ◌≢◌, refl, sym, ap, ◌∙◌, subst, ℕ, ◌+◌, arith, List, [], ◌++◌, length, length-append, append_assoc, append-nil, Bool, true, false, cond, Option, Some, None, Result, Ok, Err, ◌==◌}
use Rattle.std.specs.Prelude.{codes, decimal}
use Rattle.kts_base.specs.declared.status.Status.{Status}
use Rattle.kts_base.specs.declared.status.Status.TheVariants as status
use Rattle.kts_base.specs.Bytes.{counted}
use Rattle.kts_base.specs.Memory.{Tally, tally_log}
use Rattle.kts_base.specs.Writes.{Log, Done, Stopped}
use Rattle.kts_base.proofs.Pieces.{stops_first}
use Rattle.kts_check.specs.Specs.{spec_of}
use Rattle.kts_code.specs.declared.code.Code.{Code}
use Rattle.kts_code.specs.declared.modes.TrapKind.{TrapKind}
use Rattle.kts_code.specs.declared.modes.TrapKind.TheVariants.{PcOut, NoSpace, Register, Underflow, Kind, Overflow, StackFull}
use Rattle.kts_code.specs.Setups.{Setup, setup_of}
use Rattle.kts_data.specs.Instances.{data_of}
use Rattle.kts_machine.specs.Cuts.{text_after}
use Rattle.kts_machine.specs.Outcomes.{outcome_of}
use Rattle.kts_machine.specs.Progress.{progress}
use Rattle.kts_machine.specs.declared.outcome.Outcome.{Outcome}
use Rattle.kts_machine.specs.declared.outcome.Outcome.TheVariants as outcome
use Rattle.kts_search.specs.WholeFaults.{IsTooLong}
use Rattle.kts_search.specs.WholeScheme.{whole_scheme}
use Rattle.kts_spec.specs.declared.ending.Ending.{Ending}
use Rattle.kts_spec.specs.declared.ending.Ending.TheVariants.{End, First, Budget}
use Rattle.kts_spec.specs.declared.instance.Instance.{Instance}
use Rattle.kts_spec.specs.declared.spec.Spec.{Spec}
use Rattle.kts_spec.specs.Texts.{newline, ending_text}
use Rattle.kts_top.specs.declared.content_fault.ContentFault.{ContentFault}
use Rattle.kts_top.specs.declared.content_fault.ContentFault.TheVariants as content
use Rattle.kts_top.specs.Contents.{Content, content_of}
use Rattle.kts_top.specs.Endings.{Ends, EndsOrLacks, part, ended}
use Rattle.kts_top.specs.LastLines.{Lines, last_line}
use Rattle.kts_top.specs.Lines.{Owed, refused_length}
use Rattle.kts_top.specs.Options.{RunOptions, first_hundred}
use Rattle.kts_top.specs.Owed.{Want, with_content, with_value, fed, first_solved, sampled, spec_solved, solution_wanted, code_wanted, data_answer, answer_by, answer, program_of}
use Rattle.kts_top.specs.Refusals.{refusal, refused_data}
use Rattle.kts_top.specs.Runs.{outcome_with, last_of, with_text, owed_run}
use Rattle.kts_top.specs.SampleFiles.{sample_spec, sample_data}
use Rattle.kts_top.specs.Samples.{sample_line, summary, is_refused, summarized}
use Rattle.kts_top.specs.Traps.{trap_line, trap_name}
use Rattle.kts_top.proofs.LastLineLemmas.{Plain, decimal_plain, plain_append, last_is}
use Rattle.kts_top.proofs.PrintedLines.{items_lines}
use Rattle.kts_top.proofs.RunAnswers.{ends_after, AreTold, owed_is, path_untraced}
use Rattle.kts_top.proofs.Sinks.{done_of}

-- ---- what is owed for the files

module _ (size : ℕ) where
  -- the summary by the content of a file, whose fault is refused
  of_content : {A F : Type 0} (refused : F → Owed) (next : A → Owed) (read : Result A F) → ((fault : F) → is_refused (refused fault).status ≡ true)
      → summarized size (with_content refused next read) ≡ with_content refused (λ a. summarized size (next a)) read
  of_content refused next (Ok a) faults = refl
  of_content refused next (Err fault) faults = ap (λ b. cond b (refused fault) (summary size (refused fault))) (faults fault)

  fed_value : {A F : Type 0} (table : List ℕ) (refused : F → Owed) (next : A → Want) (read : Result A F) → fed table (with_value refused next read) ≡ with_content refused (λ a. fed table (next a)) read
  fed_value table refused next (Ok a) = refl
  fed_value table refused next (Err fault) = refl

  refusals : (fault : ContentFault) → is_refused (refusal fault).status ≡ true
  refusals (content.Trees fault) = refl
  refusals (content.Form fault) = refl
  refusals (content.Spec fault) = refl

  abbrev pub spec_summed : List ℕ → Content → Owed
  spec_summed table content = summarized size (fed table (solution_wanted first_hundred (Some []) (spec_of content.parts)))

  -- by the content of the specification
  pub files_summed : (bytes table : List ℕ) → summarized size (first_solved bytes table) ≡ with_content refusal (spec_summed table) (content_of bytes)
  unfolding spec_solved
  files_summed bytes table =
      ap (summarized size) (fed_value table refusal (λ content. solution_wanted first_hundred (Some []) (spec_of content.parts)) (content_of bytes))
      ∙ of_content refusal (λ content. fed table (solution_wanted first_hundred (Some []) (spec_of content.parts))) (content_of bytes) refusals

  -- by the code
  pub code_summed : (spec : Spec) (code : Code) (table : List ℕ) → whole_scheme spec ≡ Some code
      → summarized size (data_answer first_hundred (program_of spec code) table) ≡ summarized size (fed table (solution_wanted first_hundred (Some []) (Some spec)))
  code_summed spec code table e =
      sym (ap (λ (c : Option Code). summarized size (fed table (code_wanted first_hundred (Some []) spec c))) e)

  length_summed : (spec : Spec) (n : ℕ) (table : List ℕ) → IsTooLong spec n → refused_length n ≡ summarized size (fed table (solution_wanted first_hundred (Some []) (Some spec)))
  length_summed spec n table long =
      ap refused_length long.length_is ∙ sym (ap (λ (c : Option Code). summarized size (fed table (code_wanted first_hundred (Some []) spec c))) long.no_code)

  pub length_put : {s : Status} {a c : Log} (spec : Spec) (n : ℕ) (table : List ℕ) → IsTooLong spec n → Ends s a c (refused_length n)
      → EndsOrLacks s a c (summarized size (fed table (solution_wanted first_hundred (Some []) (Some spec))))
  length_put {s} {a} {c} spec n table long ends = ended (subst (Ends s a c) (length_summed spec n table long) ends)

  -- by the bytes
  pub files_put : {s : Status} {a c : Log} (bytes table : List ℕ) → bytes ≡ sample_spec → table ≡ sample_data size → EndsOrLacks s a c (summarized size (first_solved bytes table)) → EndsOrLacks s a c (sampled size)
  unfolding sampled
  files_put {s} {a} {c} bytes table is are ends =
      subst (EndsOrLacks s a c) (ap (λ (b : List ℕ). summarized size (first_solved b table)) is ∙ ap (λ (t : List ℕ). summarized size (first_solved sample_spec t)) are) ends

  -- by the data
  pub data_summed : (spec : Spec) (code : Code) (table : List ℕ)
      → summarized size (data_answer first_hundred (program_of spec code) table) ≡ with_content refused_data (λ inst. summarized size (answer first_hundred (program_of spec code) inst)) (data_of code.schema table)
  unfolding data_answer
  data_summed spec code table = of_content refused_data (answer first_hundred (program_of spec code)) (data_of code.schema table) (λ fault. refl)

-- what is no refusal is summarized
summed_whole : (size : ℕ) (run : Owed) → is_refused run.status ≡ false → summarized size run ≡ summary size run
summed_whole size run e = ap (λ (b : Bool). cond b run (summary size run)) e

-- what a program owes on an instance is no refusal
module _ (size : ℕ) (spec : Spec) (code : Code) (inst : Instance) where
  by_told : (o : Outcome) → is_refused (answer_by spec inst o).status ≡ false
  by_told (outcome.Ended n) = refl
  by_told (outcome.Stopped n) = refl
  by_told (outcome.Spent n) = refl
  by_told (outcome.Trap cause pc) = refl
  by_told outcome.WriteFault = refl

  not_refused : (options : RunOptions) → options.trace ≡ false → is_refused (answer options (program_of spec code) inst).status ≡ false
  unfolding answer
  not_refused options off =
      let ends : Outcome = outcome_with options (setup_of code inst) in
      ap (λ (t : Bool). is_refused (cond t (owed_run options code inst) (answer_by spec inst ends)).status) off ∙ by_told ends

  pub answer_summed : summarized size (answer first_hundred (program_of spec code) inst) ≡ summary size (answer first_hundred (program_of spec code) inst)
  answer_summed = summed_whole size (answer first_hundred (program_of spec code) inst) (not_refused first_hundred refl)

-- ---- the last line of a run

-- a line of plain bytes
record IsLine (bytes : List ℕ) : Type 0 where
  front : List ℕ
  plain : Plain front
  is : bytes ≡ front ++ newline

numbered : (word : List ℕ) (n : ℕ) → Plain word → IsLine (word ++ (decimal n ++ newline))
numbered word n p = record { front = word ++ decimal n; plain = plain_append word (decimal n) p (decimal_plain n); is = sym (append_assoc word (decimal n) newline) }

ending_line : (ending : Ending) → IsLine (ending_text ending)
ending_line (End n) = by (n == 0)
  where
    by : (none : Bool) → IsLine (cond none (codes "none" ++ newline) (codes "end " ++ (decimal n ++ newline)))
    by true = record { front = codes "none"; plain = refl; is = refl }
    by false = numbered (codes "end ") n refl
ending_line (First n) = numbered (codes "first ") n refl
ending_line (Budget n) = numbered (codes "budget ") n refl

trap_line_is : (cause : TrapKind) (pc : ℕ) → IsLine (trap_line cause pc)
trap_line_is cause pc = record {
  front = codes "trap " ++ (trap_name cause ++ (codes " at " ++ decimal pc));
  plain = plain_append (codes "trap ") (trap_name cause ++ (codes " at " ++ decimal pc)) refl (plain_append (trap_name cause) (codes " at " ++ decimal pc) (named cause) (plain_append (codes " at ") (decimal pc) refl (decimal_plain pc)));
  is = sym (ap (λ (t : List ℕ). codes "trap " ++ t) (append_assoc (trap_name cause) (codes " at " ++ decimal pc) newline));
}
  where
    named : (kind : TrapKind) → Plain (trap_name kind)
    named PcOut = refl
    named NoSpace = refl
    named Register = refl
    named Underflow = refl
    named Kind = refl
    named Overflow = refl
    named StackFull = refl

last_line_is : (o : Outcome) → o ≢ outcome.WriteFault → IsLine (last_of [] o).bytes
last_line_is (outcome.Ended n) h = subst IsLine (sym (append-nil (ending_text (End n)))) (ending_line (End n))
last_line_is (outcome.Stopped n) h = ending_line (First n)
last_line_is (outcome.Spent n) h = ending_line (Budget n)
last_line_is (outcome.Trap cause pc) h = trap_line_is cause pc
last_line_is outcome.WriteFault h = absurd (h refl)

-- the last line of what a run prints is that of its outcome
last_is_end : (text : List ℕ) (o : Outcome) → o ≢ outcome.WriteFault → Lines text → last_line (text ++ (last_of [] o).bytes) ≡ (last_of [] o).bytes
last_is_end text o h lines =
    let l = last_line_is o h in
    subst (λ (bytes : List ℕ). last_line (text ++ bytes) ≡ bytes) (sym l.is) (last_is text l.front lines l.plain)

-- ---- the summary

abbrev ending : Status → List ℕ → Owed
ending s bytes = record { status = s; bytes = bytes }

module _ (size : ℕ) (text : List ℕ) (o : Outcome) (h : o ≢ outcome.WriteFault) (lines : Lines text) (count : ℕ) (all : count ≡ length text + length (last_of [] o).bytes) where
  abbrev last : Owed
  last = last_of [] o

  abbrev whole_text : List ℕ
  whole_text = text ++ last.bytes

  summary_is : with_text (sample_line size count) last ≡ summary size (with_text text last)
  summary_is =
      ap (λ (n : ℕ). with_text (sample_line size n) last) (all ∙ sym (length-append text last.bytes))
      ∙ ap (λ (l : List ℕ). with_text (sample_line size (length whole_text)) (ending last.status l)) (sym (last_is_end text o h lines))

  -- the summary was put
  pub summary_put : {s : Status} {a b c : Log} → Done a b (sample_line size count) → Ends s b c (last_of [] o) → EndsOrLacks s a c (summary size (with_text text (last_of [] o)))
  summary_put {s} {a} {b} {c} done ends = ended (subst (Ends s a c) summary_is (ends_after done ends))

  -- its first line was cut off
  pub cut_short : {a c : Log} → Stopped a c (sample_line size count) → EndsOrLacks status.WriteFault a c (summary size (with_text text (last_of [] o)))
  cut_short {a} {c} stopped = ended (subst (Ends status.WriteFault a c) summary_is (part refl (stops_first last.bytes stopped)))

-- what is counted after a text and a last line
pub counted_all : {s : Status} (old new : Tally) (n : ℕ) (last : Owed) → old.count ≡ n → Ends s (tally_log old) (tally_log new) last → s ≢ status.WriteFault → new.count ≡ n + length last.bytes
counted_all old new n last e ends h = by (done_of ends h).appended
  where
    by : counted new.count ≡ counted (old.count + length last.bytes) → new.count ≡ n + length last.bytes
    by same = let m : new.count ≡ old.count + length last.bytes = cc in m ∙ ap (λ k. k + length last.bytes) e

-- what is counted after a text
pub counted_text : (old new : Tally) (text : List ℕ) → old ≡ record { count = 0; faults = 0 } → Done (tally_log old) (tally_log new) text → new.count ≡ length text
counted_text old new text e done = by done.appended
  where
    by : counted new.count ≡ counted (old.count + length text) → new.count ≡ length text
    by same =
        let m : new.count ≡ old.count + length text = cc in
        let none : old.count ≡ 0 = ap (λ (t : Tally). t.count) e in
        omega (arith, m, none)

-- ---- the run

module _ (options : RunOptions) (e : options ≡ first_hundred) (first : Option ℕ) (traced : Bool) (budget : ℕ) (told : AreTold options first traced budget)
    (code : Code) (inst : Instance) (m : Setup) (same : m ≡ setup_of code inst) (o : Outcome) (is : o ≡ outcome_of first (progress m first budget)) where
  off : options.trace ≡ false
  off = ap (λ (r : RunOptions). r.trace) e

  pub run_lines : Lines (text_after m 0 first traced budget)
  run_lines = subst (λ (t : Bool). Lines (text_after m 0 first t budget)) (sym (told.trace_is ∙ off)) (items_lines m.code.schema m.inst 0 (progress m first budget).state.items)

  -- the summary of what it prints is the summary of what is owed
  pub run_summed : {s : Status} {a c : Log} (size : ℕ) → EndsOrLacks s a c (summary size (with_text (text_after m 0 first traced budget) (last_of [] o)))
      → EndsOrLacks s a c (summary size (owed_run first_hundred code inst))
  run_summed {s} {a} {c} size ends =
      let owed = owed_is options first traced budget told code inst m same o None is (path_untraced options first traced budget told code inst m same off) in
      subst (λ (run : Owed). EndsOrLacks s a c (summary size run)) (owed ∙ ap (λ (r : RunOptions). owed_run r code inst) e) ends
