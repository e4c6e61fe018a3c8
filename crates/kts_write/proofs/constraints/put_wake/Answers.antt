use Rattle.std.proofs.Common.{◌++◌, ◌∷◌, [], map}
use Rattle.std.specs.Prelude.{codes, decimal}
use Rattle.std.proofs.lemmas.Result.{err_from_is_err_and}
use Rattle.kts_base.proofs.Pieces.{after, stops_first, stops_later}
use Rattle.kts_code.specs.CodeTexts.{place_word}
use Rattle.kts_spec.specs.Texts.{newline}
use Rattle.kts_write.specs.Spaced.{spaced}
use Rattle.kts_write.proofs.LineTexts.{line_parts}
use Rattle.kts_write.proofs.constraints.put_wake.Goals as goal

pub returns-in_err-put_pieces : goal.returns-in_err-put_pieces
returns-in_err-put_pieces g c =
    let p = err_from_is_err_and c.from_residual.result c.from_residual.ensures.1 in
    let pattern = c.args.pattern.now in
    let places = map place_word pattern.args in
    let d = rw (
      c.as_bytes.ensures.value,
      c.as_bytes-2.ensures.value,
      c.format.ensures.text,
      c.format-2.ensures.text,
      c.definite.ensures,
      c.choice.ensures,
    ) at c.in_err-put_pieces.ensures in
    rw p.1 (rw (line_parts (codes "wake") (decimal pattern.definite ∷ decimal pattern.choice ∷ []) places) at (stops_first (spaced places ++ newline) d))

pub returns-in_err-put_places : goal.returns-in_err-put_places
returns-in_err-put_places g c =
    let p = err_from_is_err_and c.from_residual-in_err-put_places.result c.from_residual-in_err-put_places.ensures.1 in
    let pattern = c.args.pattern.now in
    let places = map place_word pattern.args in
    let d = rw (
      c.as_bytes.ensures.value,
      c.as_bytes-2.ensures.value,
      c.format.ensures.text,
      c.format-2.ensures.text,
      c.definite.ensures,
      c.choice.ensures,
    ) at c.in_ok-put_pieces.ensures in
    let e = rw (c.as_slice.ensures, c.args-2.ensures) at c.in_err-put_places.ensures in
    rw p.1 (rw (line_parts (codes "wake") (decimal pattern.definite ∷ decimal pattern.choice ∷ []) places) at (stops_later d (stops_first newline e)))

pub returns : goal.returns
returns g c =
    let pattern = c.args.pattern.now in
    let places = map place_word pattern.args in
    let d = rw (
      c.as_bytes.ensures.value,
      c.as_bytes-2.ensures.value,
      c.format.ensures.text,
      c.format-2.ensures.text,
      c.definite.ensures,
      c.choice.ensures,
    ) at c.in_ok-put_pieces.ensures in
    let e = rw (c.as_slice.ensures, c.args-2.ensures) at c.in_ok-put_places.ensures in
    let all = after c.put.result _ (spaced places ++ newline) d (after c.put.result _ newline e c.put.ensures.wrote) in
    rw (line_parts (codes "wake") (decimal pattern.definite ∷ decimal pattern.choice ∷ []) places) at all
