use Rattle.std.proofs.Common.{drop}
use Rattle.kts_base.specs.Writes.{Part}
use Rattle.kts_syntax.specs.Texts.{lines_text}
use Rattle.kts_syntax.proofs.printer.put_lines.Given as goal

abbrev pub invariant-loop-form : goal.invariant-loop-form
invariant-loop-form g l = Part (g.S.Sink.log l.fn.out) (g.S.Sink.log l.out) (lines_text (drop l.form-index l.forms)) (lines_text l.forms)
