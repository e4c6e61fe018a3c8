use Rattle.kts_syntax.proofs.TextLemmas.{named_pieces}
use Rattle.kts_syntax.proofs.printer.put_named.Goals as goal

pub returns : goal.returns
returns g c = rw (c.bytes.ensures.bytes, c.name.ensures, named_pieces c.args.word.now c.args.name.now.name) at c.put_pieces.ensures
