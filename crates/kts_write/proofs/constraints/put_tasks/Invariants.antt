use Rattle.std.proofs.Common.{drop, map}
use Rattle.std.specs.Prelude.{zip}
use Rattle.kts_base.specs.Writes.{Part}
use Rattle.kts_code.specs.CodeTexts.{task_words}
use Rattle.kts_write.proofs.LineTexts.{lines_text}
use Rattle.kts_write.proofs.constraints.put_tasks.Given as goal

abbrev pub invariant-loop-k : goal.invariant-loop-k
invariant-loop-k g l =
    Part (g.S.Sink.log l.fn.out) (g.S.Sink.log l.out)
    (lines_text (map task_words (zip (drop l.k l.entries) (drop l.k l.prefixes)))) (lines_text (map task_words (zip l.entries l.prefixes)))
