use Rattle.std.proofs.Common.{drop, map}
use Rattle.kts_base.specs.Writes.{Part}
use Rattle.kts_code.specs.CodeTexts.{decl_words}
use Rattle.kts_write.proofs.LineTexts.{lines_text}
use Rattle.kts_write.proofs.declarations.put_decls.Given as goal

abbrev pub invariant-loop-decl : goal.invariant-loop-decl
invariant-loop-decl g l =
    Part (g.S.Sink.log l.fn.out) (g.S.Sink.log l.out)
    (lines_text (map (decl_words l.schema) (drop l.decl-index l.decls))) (lines_text (map (decl_words l.schema) l.decls))
