use Rattle.std.proofs.Common.{drop, map}
use Rattle.kts_base.specs.Writes.{Part}
use Rattle.kts_syntax.specs.Texts.{spaced, expr_text}
use Rattle.kts_syntax.proofs.printer.+printer.Given as goal

abbrev pub invariant-put_parts-loop-part : goal.invariant-put_parts-loop-part
invariant-put_parts-loop-part g l =
    Part (g.S.Sink.log l.fn.out) (g.S.Sink.log l.out) (spaced (map expr_text (drop l.part-index l.parts))) (spaced (map expr_text l.parts))
