use Rattle.std.proofs.Common.{drop, map}
use Rattle.kts_base.specs.Writes.{Part}
use Rattle.kts_code.specs.CodeTexts.{wake_words}
use Rattle.kts_write.proofs.LineTexts.{lines_text}
use Rattle.kts_write.proofs.constraints.put_wakes.Given as goal

abbrev pub invariant-loop-pattern : goal.invariant-loop-pattern
invariant-loop-pattern g l =
    Part (g.S.Sink.log l.fn.out) (g.S.Sink.log l.out)
    (lines_text (map wake_words (drop l.pattern-index l.patterns))) (lines_text (map wake_words l.patterns))
