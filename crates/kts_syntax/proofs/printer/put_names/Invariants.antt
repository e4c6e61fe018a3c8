use Rattle.std.proofs.Common.{drop, map}
use Rattle.kts_base.specs.Writes.{Part}
use Rattle.kts_syntax.specs.Texts.{spaced, name_text}
use Rattle.kts_syntax.proofs.printer.put_names.Given as goal

abbrev pub invariant-loop-word : goal.invariant-loop-word
invariant-loop-word g l =
    Part (g.S.Sink.log l.fn.out) (g.S.Sink.log l.out) (spaced (map name_text (drop l.word-index l.words))) (spaced (map name_text l.words))
