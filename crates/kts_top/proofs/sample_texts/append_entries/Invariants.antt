use Rattle.std.proofs.Common.{◌≡◌, ◌++◌}
use Rattle.kts_top.specs.SampleFiles.{entries_text}
use Rattle.kts_top.proofs.sample_texts.append_entries.Given as goal

-- so many entries stand
abbrev pub invariant-loop-before : goal.invariant-loop-before
invariant-loop-before l = l.text ≡ l.initial.text ++ entries_text l.entry l.before
