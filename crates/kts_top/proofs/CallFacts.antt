-- What a call's course says of its status, its files and its sink.
use Rattle.std.proofs.Common.{◌≡◌, ◌≢◌, ◌⊎◌, inl, inr, refl, sym, ap, ◌∙◌, subst, ℕ, ◌<◌, arith, List, [], Option, Some, None}
use Rattle.std.proofs.lemmas.Option.{none-some}
use Rattle.kts_base.specs.declared.status.Status.{Status}
use Rattle.kts_base.specs.declared.status.Status.TheVariants.{Usage, NoMemory, ReadFault, WriteFault, Trap}
use Rattle.kts_base.specs.Counts.{Rose}
use Rattle.kts_base.specs.Stores.{Store}
use Rattle.kts_base.specs.Writes.{Log, Done}
use Rattle.kts_top.specs.Calls.{Call, IsCommandLine, IsRunLine, Loads, LoadsFile, Tells, Answers, owing, unread, starved, FailsAt, IsVerdict, Causes}
use Rattle.kts_top.specs.Commands.{Command, check, classify, generate, run, solve_data, solve, audit, sample, command_of}
use Rattle.kts_top.specs.Courses.{Course, CourseOf, ended, lacked, unread as load_unread, read}
use Rattle.kts_top.specs.Endings.{Ends, whole, part}
use Rattle.kts_top.specs.Lines.{Owed, usage, fault_read, no_memory}
use Rattle.kts_top.specs.Manual.{IsCommand}
use Rattle.kts_top.specs.Owed.{Want, end, load, wanted, want_of, owed_from, owed}
use Rattle.kts_top.proofs.CommandWords.{read_is_command, command_is_read}
use Rattle.kts_top.proofs.CourseEnds.{owed_same, loads_same, filled_all, filled_may, Made, Why, by_content, by_load, by_memory, End, At, end_of}
use Rattle.kts_top.proofs.Sinks.{either_status, other_status, done_of, calm_of, rose_of}
use Rattle.kts_top.proofs.Statuses.{CodeNeverTraps, IsRun, wanted_kind}

-- words that are a command that runs the code of a file are `run`
run_line : (words : List (List ℕ)) (command : Command) → IsCommand command words → IsRun command → IsRunLine words
run_line words (run code table options) is runs = (code, table, options, is)
run_line words (check spec) is runs = absurd runs
run_line words (classify spec) is runs = absurd runs
run_line words (generate spec) is runs = absurd runs
run_line words (solve_data spec table options) is runs = absurd runs
run_line words (solve spec options) is runs = absurd runs
run_line words (audit spec table plan) is runs = absurd runs
run_line words (sample size) is runs = absurd runs

-- where files tell all that they hold, that alone is owed
pub told_owed : (call : Call) → Causes call → (held : List ℕ → Option (List ℕ)) → Tells call.files held → Answers call (λ _. held) (owed call.words (λ _. held))
told_owed call causes held tells = told causes.some
  where
    same : (n : ℕ) (path : List ℕ) → causes.given n path ≡ held path
    same n path = causes.may n path (held path) (tells path)

    owed_is : owed call.words causes.given ≡ owed call.words (λ _. held)
    owed_is = owed_same (want_of (command_of call.words)) 1 causes.given (λ _. held) (λ n h path. same n path)

    told : Answers call causes.given (owed call.words causes.given) → Answers call (λ _. held) (owed call.words (λ _. held))
    told (owing ends) = owing (subst (Ends call.status call.out call.out_after) owed_is ends)
    told (unread k path (command, is, loads) rose ends) =
        unread k path (command, is, loads_same (wanted command) 1 causes.given (λ _. held) (λ n h other. same n other) k path loads) rose ends
    told (starved line ends) = starved line ends

-- a verdict is what is owed
verdict_of : (call : Call) (given : ℕ → List ℕ → Option (List ℕ)) (due : Owed) → Answers call given due → IsVerdict call.status
    → (call.status ≡ due.status) × Done call.out call.out_after due.bytes
verdict_of call given due (owing (whole e written done)) is = (e, done)
verdict_of call given due (owing (part e stopped)) is = absurd (subst IsVerdict e is)
verdict_of call given due (unread k path loads rose (whole e written done)) is = absurd (subst IsVerdict e is)
verdict_of call given due (unread k path loads rose (part e stopped)) is = absurd (subst IsVerdict e is)
verdict_of call given due (starved line (whole e written done)) is = absurd (subst IsVerdict e is)
verdict_of call given due (starved line (part e stopped)) is = absurd (subst IsVerdict e is)

-- a command that loads nothing leaves files alone
idle_course : (status : Status) (old new : Log) (after files : Store) (want : Want) (given : ℕ → List ℕ → Option (List ℕ)) → Course status old new after 1 files want
    → ((path : List ℕ) → Loads given 1 want 1 path → ⊥) → after ≡ files
idle_course status old new after files (end owed) given (ended same ends) none = same
idle_course status old new after files want given (lacked same ends) none = same
idle_course status old new after files (load path next) given (load_unread cause) none = absurd (none path (inl (refl, refl)))
idle_course status old new after files (load path next) given (read middle bytes is course) none = absurd (none path (inl (refl, refl)))

module _ (safe : CodeNeverTraps) (words : List (List ℕ)) (status : Status) (files after : Store) (old new : Log) where
  abbrev call_here : Call
  call_here = record { words = words; status = status; files = files; files_after = after; out = old; out_after = new }

  -- words that are no command
  no_command_facts : command_of words ≡ None → after ≡ files → Ends status old new usage → Causes call_here
  no_command_facts none same ends = record {
    given = filled_all files [];
    may = filled_may files [];
    some = answers;
    verdict = verdict_of call_here (filled_all files []) (owed words (filled_all files [])) answers;
    usage = (λ is. (no_line, done_of ends (λ h. cc)));
    no_command = (λ _. either_status ends);
    read = (λ is. absurd (other_status ends ReadFault (λ h. cc) (λ h. cc) is));
    fault = (λ more. absurd (omega (arith, more, ap (λ (s : Store). s.faults) same)));
    memory = (λ is. absurd (other_status ends NoMemory (λ h. cc) (λ h. cc) is));
    write = rose_of ends;
    calm = calm_of ends;
    trap = (λ is. absurd (other_status ends Trap (λ h. cc) (λ h. cc) is));
    loads = (0, ap (λ (s : Store). s.loads) same, inl refl);
    held = ap (λ (s : Store). s.held) same;
    idle = (λ _. same);
  }
    where
      answers : Answers call_here (filled_all files []) (owed words (filled_all files []))
      answers = owing (subst (Ends status old new) (sym (ap (λ c. owed_from 1 (filled_all files []) (want_of c)) none)) ends)

      no_line : IsCommandLine words → ⊥
      no_line line = none-some line.0 (sym none ∙ command_is_read words line.0 line.1)

  module _ (command : Command) (is : command_of words ≡ Some command) where
    command_is : IsCommand command words
    command_is = read_is_command words command is

    module _ (it : End (IsRun command) status old new after files 1 (wanted command)) where
      -- why it was put
      abbrev Cause : Type 0
      Cause = Why (IsRun command) status old new after files it.given 1 (wanted command) it.owed

      file_at : (n : ℕ) (path : List ℕ) → Loads it.given 1 (wanted command) n path → LoadsFile words it.given n path
      file_at n path loads = (command, command_is, loads)

      -- what is owed for the command is owed for the words
      owed_here : owed words it.given ≡ owed_from 1 it.given (wanted command)
      owed_here = ap (λ c. owed_from 1 it.given (want_of c)) is

      -- the line that was put
      put : (line : Owed) → it.owed ≡ line → Ends status old new line
      put line e = subst (Ends status old new) e it.ends

      answers_owing : owed_from 1 it.given (wanted command) ≡ it.owed → Answers call_here it.given (owed words it.given)
      answers_owing e = owing (put (owed words it.given) (sym (owed_here ∙ e)))

      answers : Cause → Answers call_here it.given (owed words it.given)
      answers (by_content kind calm e) = answers_owing e
      answers (by_load n path loads count line (inl rose)) = unread n path (file_at n path loads) rose (put (fault_read n) line)
      answers (by_load n path loads count line (inr nothing)) = answers_owing nothing.1
      answers (by_memory calm line) = starved (command, command_is) (put no_memory line)

      not_usage : Cause → status ≢ Usage
      not_usage (by_content kind calm e) = other_status it.ends Usage kind.not_usage (λ h. cc)
      not_usage (by_load n path loads count line cause) = other_status (put (fault_read n) line) Usage (λ h. cc) (λ h. cc)
      not_usage (by_memory calm line) = other_status (put no_memory line) Usage (λ h. cc) (λ h. cc)

      -- it traps only where the command runs the code of a file
      traps : Cause → status ≡ Trap → IsRun command
      traps (by_content kind calm o) e = by (either_status it.ends)
        where
          by : (status ≡ it.owed.status) ⊎ (status ≡ WriteFault) → IsRun command
          by (inl same) = kind.traps (sym same ∙ e)
          by (inr fault) = absurd cc
      traps (by_load n path loads count line cause) e = absurd (other_status (put (fault_read n) line) Trap (λ h. cc) (λ h. cc) e)
      traps (by_memory calm line) e = absurd (other_status (put no_memory line) Trap (λ h. cc) (λ h. cc) e)

      fails : Cause → status ≡ ReadFault → (k : ℕ) × (path : List ℕ) × FailsAt call_here it.given k path
      fails (by_content kind calm o) e = absurd (other_status it.ends ReadFault kind.not_read (λ h. cc) e)
      fails (by_load n path loads count line cause) e =
          (n, path, record { wants = file_at n path loads; failed = by cause; loads = count; line = done_of (put (fault_read n) line) (λ h. cc) })
        where
          by : Rose files.faults after.faults ⊎ ((files.held path ≡ Some None) × (owed_from 1 it.given (wanted command) ≡ it.owed)) → Rose files.faults after.faults ⊎ (files.held path ≡ Some None)
          by (inl rose) = inl rose
          by (inr nothing) = inr nothing.0
      fails (by_memory calm line) e = absurd (other_status (put no_memory line) ReadFault (λ h. cc) (λ h. cc) e)

      faults : Cause → files.faults < after.faults → (status ≡ ReadFault) ⊎ (status ≡ WriteFault)
      faults (by_content kind calm o) more = absurd (omega (arith, more, calm))
      faults (by_load n path loads count line cause) more = either_status (put (fault_read n) line)
      faults (by_memory calm line) more = absurd (omega (arith, more, calm))

      lacks : Cause → status ≡ NoMemory → IsCommandLine words × Done old new no_memory.bytes
      lacks (by_content kind calm o) e = absurd (other_status it.ends NoMemory kind.not_memory (λ h. cc) e)
      lacks (by_load n path loads count line cause) e = absurd (other_status (put (fault_read n) line) NoMemory (λ h. cc) (λ h. cc) e)
      lacks (by_memory calm line) e = ((command, command_is), done_of (put no_memory line) (λ h. cc))

      -- the files that were loaded
      loaded : Made it.given 1 (wanted command) it.count → (it.count ≡ 0) ⊎ ((path : List ℕ) × LoadsFile words it.given it.count path)
      loaded (inl none) = inl (omega (arith, none))
      loaded (inr (path, loads)) = inr (path, file_at it.count path loads)

    -- words that are this command
    command_facts : Course status old new after 1 files (wanted command) → Causes call_here
    command_facts course = record {
      given = it.given;
      may = it.may;
      some = answers it it.why;
      verdict = verdict_of call_here it.given (owed words it.given) (answers it it.why);
      usage = (λ e. absurd (not_usage it it.why e));
      no_command = (λ none. absurd (none (command, command_is)));
      read = fails it it.why;
      fault = faults it it.why;
      memory = lacks it it.why;
      write = rose_of it.ends;
      calm = calm_of it.ends;
      trap = (λ e. run_line words command command_is (traps it it.why e));
      loads = (it.count, it.loads, loaded it it.made);
      held = it.held;
      idle = (λ none. idle_course status old new after files (wanted command) it.given course (λ path loads. none path (file_at it 1 path loads)));
    }
      where
        at : At (IsRun command) status old new after files 1 files
        at = record { held = refl; faults = refl; count = 0; count_is = refl; loads = refl }

        it : End (IsRun command) status old new after files 1 (wanted command)
        it = end_of (IsRun command) status old new after files 1 files (wanted command) (wanted_kind safe command) at course

  -- the facts of each call
  pub facts : CourseOf status old new after files (command_of words) → Causes call_here
  facts course = by (command_of words) refl course
    where
      by : (command : Option Command) → command_of words ≡ command → CourseOf status old new after files command → Causes call_here
      by None is course = no_command_facts is course.0 course.1
      by (Some command) is course = command_facts command is course
