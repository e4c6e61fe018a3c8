use Rattle.std.proofs.Common.{◌++◌, map}
use Rattle.std.specs.Prelude.{decimal}
use Rattle.std.proofs.lemmas.Result.{err_from_is_err_and}
use Rattle.kts_base.proofs.Pieces.{after, stops_first, stops_later}
use Rattle.kts_code.specs.CodeTexts.{type_words}
use Rattle.kts_spec.specs.Texts.{newline}
use Rattle.kts_write.specs.Spaced.{spaced}
use Rattle.kts_write.proofs.LineTexts.{family_pieces}
use Rattle.kts_write.proofs.declarations.put_family.Goals as goal

pub returns-in_err-put_pieces : goal.returns-in_err-put_pieces
returns-in_err-put_pieces g c =
    let p = err_from_is_err_and c.from_residual.result c.from_residual.ensures.1 in
    let f = c.args.family.now in
    let d = rw (c.bytes.ensures.bytes, c.name.ensures) at c.in_err-put_pieces.ensures in
    let all = stops_first (spaced (type_words f.kind) ++ (spaced (map decimal f.args) ++ newline)) d in
    rw p.1 (rw (family_pieces c.args.word.now f) at all)

pub returns-in_err-put_type : goal.returns-in_err-put_type
returns-in_err-put_type g c =
    let p = err_from_is_err_and c.from_residual-in_err-put_type.result c.from_residual-in_err-put_type.ensures.1 in
    let f = c.args.family.now in
    let d = rw (c.bytes.ensures.bytes, c.name.ensures) at c.in_ok-put_pieces.ensures in
    let t = rw c.kind.ensures at c.in_err-put_type.ensures in
    let all = stops_later d (stops_first (spaced (map decimal f.args) ++ newline) t) in
    rw p.1 (rw (family_pieces c.args.word.now f) at all)

pub returns-in_err-put_indexes : goal.returns-in_err-put_indexes
returns-in_err-put_indexes g c =
    let p = err_from_is_err_and c.from_residual-in_err-put_indexes.result c.from_residual-in_err-put_indexes.ensures.1 in
    let f = c.args.family.now in
    let d = rw (c.bytes.ensures.bytes, c.name.ensures) at c.in_ok-put_pieces.ensures in
    let t = rw c.kind.ensures at c.in_ok-put_type.ensures in
    let i = rw (c.as_slice.ensures, c.args-2.ensures) at c.in_err-put_indexes.ensures in
    let all = stops_later d (stops_later t (stops_first newline i)) in
    rw p.1 (rw (family_pieces c.args.word.now f) at all)

pub returns : goal.returns
returns g c =
    let f = c.args.family.now in
    let d = rw (c.bytes.ensures.bytes, c.name.ensures) at c.in_ok-put_pieces.ensures in
    let t = rw c.kind.ensures at c.in_ok-put_type.ensures in
    let i = rw (c.as_slice.ensures, c.args-2.ensures) at c.in_ok-put_indexes.ensures in
    let all = after c.put.result _ (spaced (type_words f.kind) ++ (spaced (map decimal f.args) ++ newline)) d
    (after c.put.result _ (spaced (map decimal f.args) ++ newline) t (after c.put.result _ newline i c.put.ensures.wrote)) in
    rw (family_pieces c.args.word.now f) at all
