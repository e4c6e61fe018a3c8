use Rattle.std.proofs.lemmas.Int.{to_z-of_z}
use mir.Syntax.{w64}
use Rattle.kts_syntax.proofs.TextLemmas.{int_pieces}
use Rattle.kts_syntax.proofs.printer.put_ends.Goals as goal

pub returns : goal.returns
returns g c =
    rw (c.as_bytes.ensures.value, c.as_bytes-2.ensures.value, c.format.ensures.text, c.format-2.ensures.text, to_z-of_z w64 c.args.low c.ranges.low, to_z-of_z w64 c.args.high c.ranges.high, int_pieces c.args.low c.args.high) at c.put_pieces.ensures
