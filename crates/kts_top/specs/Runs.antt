-- What a run of code on data owes.
use Rattle.std.specs.Prelude.{ℕ, List, [], ◌++◌, if◌then◌else◌, Option, Some, None}
use Rattle.kts_show.specs.PathTexts.{path_text}
use Rattle.kts_base.specs.declared.status.Status.TheVariants as status
use Rattle.kts_code.specs.declared.code.Code.{Code}
use Rattle.kts_code.specs.Setups.{Setup, setup_of}
use Rattle.kts_index.specs.TaskBound.{bound}
use Rattle.kts_machine.specs.declared.outcome.Outcome.{Outcome}
use Rattle.kts_machine.specs.declared.outcome.Outcome.TheVariants.{Ended, Stopped, Spent, Trap, WriteFault}
use Rattle.kts_machine.specs.Cuts.{text_after}
use Rattle.kts_machine.specs.Outcomes.{outcome_of}
use Rattle.kts_machine.specs.Progress.{Progress, progress}
use Rattle.kts_spec.specs.declared.ending.Ending.TheVariants.{End, First, Budget}
use Rattle.kts_spec.specs.declared.instance.Instance.{Instance}
use Rattle.kts_spec.specs.Texts.{ending_text}
use Rattle.kts_top.specs.Lines.{Owed}
use Rattle.kts_top.specs.Options.{RunOptions, steps_of}
use Rattle.kts_top.specs.Traps.{trap_line}

-- how far a run goes with these options, the oldest task first
abbrev pub progress_with : RunOptions → Setup → Progress
progress_with options m = progress m options.first (steps_of options)

-- how it ends
abbrev pub outcome_with : RunOptions → Setup → Outcome
outcome_with options m = outcome_of options.first (progress_with options m)

-- the line of the longest path of a run and of the bound on it, if they are to be shown
abbrev pub shown_path : Option (ℕ × ℕ) → List ℕ
shown_path None = []
shown_path (Some (longest, bound)) = path_text longest bound

-- they are, where nodes are
abbrev pub path_with : RunOptions → Setup → Option (ℕ × ℕ)
path_with options m = if options.trace then Some ((progress_with options m).longest, bound m.code.index m.code.schema m.inst) else None

-- the status of a run, and its last lines: where it has halted, this path follows
abbrev pub last_of : List ℕ → Outcome → Owed
last_of path (Ended n) = record { status = status.Done; bytes = ending_text (End n) ++ path }
last_of path (Stopped n) = record { status = status.Done; bytes = ending_text (First n) }
last_of path (Spent n) = record { status = status.Budget; bytes = ending_text (Budget n) }
last_of path (Trap kind pc) = record { status = status.Trap; bytes = trap_line kind pc }
last_of path WriteFault = record { status = status.WriteFault; bytes = [] }

-- a text, and then the last lines
abbrev pub with_text : List ℕ → Owed → Owed
with_text text last = record { status = last.status; bytes = text ++ last.bytes }

-- the text of what a run has found, and its last lines
abbrev pub owed_in : RunOptions → Setup → Owed
owed_in options m =
    with_text (text_after m 0 options.first options.trace (steps_of options)) (last_of (shown_path (path_with options m)) (outcome_with options m))

-- what the run of code on an instance owes with these options
unfoldable pub owed_run : RunOptions → Code → Instance → Owed
owed_run options code inst = owed_in options (setup_of code inst)
