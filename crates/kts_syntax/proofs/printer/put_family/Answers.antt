use Rattle.std.proofs.Common.{◌++◌, ◌∷◌, []}
use Rattle.std.proofs.lemmas.Result.{err_from_is_err_and}
use Rattle.kts_base.proofs.Pieces.{after, stops_first, stops_later}
use Rattle.kts_syntax.specs.Texts.{names_text, shape_text}
use Rattle.kts_syntax.proofs.TextLemmas.{family_text}
use Rattle.kts_syntax.proofs.printer.put_family.Goals as goal

pub returns-in_err-put_pieces : goal.returns-in_err-put_pieces
returns-in_err-put_pieces g c =
    let p = err_from_is_err_and c.from_residual.result c.from_residual.ensures.1 in
    let e = rw (c.bytes.ensures.bytes, c.name.ensures) at c.in_err-put_pieces.ensures in
    let all = stops_first (names_text c.args.args.now ++ 32 ∷ (shape_text c.args.shape.now ++ 41 ∷ [])) e in
    rw p.1 (rw (family_text c.args.word.now c.args.name.now.name (names_text c.args.args.now) (shape_text c.args.shape.now)) at all)

pub returns-in_err-put_args : goal.returns-in_err-put_args
returns-in_err-put_args g c =
    let p = err_from_is_err_and c.from_residual-in_err-put_args.result c.from_residual-in_err-put_args.ensures.1 in
    let d = rw (c.bytes.ensures.bytes, c.name.ensures) at c.in_ok-put_pieces.ensures in
    let all = stops_later d (stops_first (32 ∷ (shape_text c.args.shape.now ++ 41 ∷ [])) c.in_err-put_args.ensures) in
    rw p.1 (rw (family_text c.args.word.now c.args.name.now.name (names_text c.args.args.now) (shape_text c.args.shape.now)) at all)

pub returns-in_err-put : goal.returns-in_err-put
returns-in_err-put g c =
    let p = err_from_is_err_and c.from_residual-in_err-put.result c.from_residual-in_err-put.ensures.1 in
    let d = rw (c.bytes.ensures.bytes, c.name.ensures) at c.in_ok-put_pieces.ensures in
    let all = stops_later d (stops_later c.in_ok-put_args.ensures (stops_first (shape_text c.args.shape.now ++ 41 ∷ []) c.in_err-put.ensures.wrote)) in
    rw p.1 (rw (family_text c.args.word.now c.args.name.now.name (names_text c.args.args.now) (shape_text c.args.shape.now)) at all)

pub returns-in_err-put_shape : goal.returns-in_err-put_shape
returns-in_err-put_shape g c =
    let p = err_from_is_err_and c.from_residual-in_err-put_shape.result c.from_residual-in_err-put_shape.ensures.1 in
    let d = rw (c.bytes.ensures.bytes, c.name.ensures) at c.in_ok-put_pieces.ensures in
    let all = stops_later d (stops_later c.in_ok-put_args.ensures (stops_later c.in_ok-put.ensures.wrote (stops_first (41 ∷ []) c.in_err-put_shape.ensures))) in
    rw p.1 (rw (family_text c.args.word.now c.args.name.now.name (names_text c.args.args.now) (shape_text c.args.shape.now)) at all)

pub returns : goal.returns
returns g c =
    let d = rw (c.bytes.ensures.bytes, c.name.ensures) at c.in_ok-put_pieces.ensures in
    let shape = shape_text c.args.shape.now in
    let all = after c.put-2.result _ (names_text c.args.args.now ++ 32 ∷ (shape ++ 41 ∷ [])) d
    (after c.put-2.result _ (32 ∷ (shape ++ 41 ∷ [])) c.in_ok-put_args.ensures
    (after c.put-2.result _ (shape ++ 41 ∷ []) c.in_ok-put.ensures.wrote
    (after c.put-2.result _ (41 ∷ []) c.in_ok-put_shape.ensures c.put-2.ensures.wrote))) in
    rw (family_text c.args.word.now c.args.name.now.name (names_text c.args.args.now) shape) at all
