-- The summary of a run: how many bytes it prints, and its last line.
use Rattle.std.specs.Prelude.{ℕ, List, ◌++◌, length, codes, decimal, Bool, true, false, if◌then◌else◌}
use Rattle.kts_base.specs.declared.status.Status.{Status}
use Rattle.kts_base.specs.declared.status.Status.TheVariants.{Refused}
use Rattle.kts_spec.specs.Texts.{newline}
use Rattle.kts_top.specs.LastLines.{last_line}
use Rattle.kts_top.specs.Lines.{Owed}

-- the line of a size and a number of bytes
abbrev pub sample_line : ℕ → ℕ → List ℕ
sample_line size count = codes "sample " ++ (decimal size ++ (codes " bytes " ++ (decimal count ++ newline)))

abbrev pub summary : ℕ → Owed → Owed
summary size run = record { status = run.status; bytes = sample_line size (length run.bytes) ++ last_line run.bytes }

abbrev pub is_refused : Status → Bool
is_refused Refused = true
is_refused other = false

-- what is owed for a run: its summary, or the refusal where its files are refused
abbrev pub summarized : ℕ → Owed → Owed
summarized size run = if is_refused run.status then run else summary size run
