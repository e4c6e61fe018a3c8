use Rattle.kts_syntax.proofs.TextLemmas.{binder_pieces}
use Rattle.kts_syntax.proofs.printer.put_binder.Goals as goal

pub returns : goal.returns
returns g c = rw (c.bytes.ensures.bytes, c.bytes-2.ensures.bytes, c.name.ensures, c.name-2.ensures, binder_pieces c.args.binder.now) at c.put_pieces.ensures
