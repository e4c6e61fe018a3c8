use Rattle.std.proofs.Common.{map}
use Rattle.std.proofs.lemmas.Result.{err_from_is_err_and}
use Rattle.kts_base.proofs.Pieces.{after, stops_first}
use Rattle.kts_code.specs.CodeTexts.{decl_words}
use Rattle.kts_write.proofs.LineTexts.{lines_text, schema_pieces}
use Rattle.kts_write.proofs.DeclaredThere.{all_there}
use Rattle.kts_write.proofs.declarations.put_schema.Goals as goal

pub put_decls-requires : goal.put_decls-requires
put_decls-requires g c = rw (c.as_slice.ensures, c.decls.ensures) (all_there c.args.schema.now)

pub returns-in_err-put_pieces : goal.returns-in_err-put_pieces
returns-in_err-put_pieces g c =
    let p = err_from_is_err_and c.from_residual.result c.from_residual.ensures.1 in
    let schema = c.args.schema.now in
    let d = rw (c.bytes.ensures.bytes, c.name.ensures) at c.in_err-put_pieces.ensures in
    rw p.1 (rw (schema_pieces schema) at (stops_first (lines_text (map (decl_words schema) schema.decls)) d))

pub returns : goal.returns
returns g c =
    let schema = c.args.schema.now in
    let d = rw (c.bytes.ensures.bytes, c.name.ensures) at c.in_ok-put_pieces.ensures in
    let e = rw (c.as_slice.ensures, c.decls.ensures) at c.put_decls.ensures in
    rw (schema_pieces schema) at (after c.put_decls.result _ (lines_text (map (decl_words schema) schema.decls)) d e)
