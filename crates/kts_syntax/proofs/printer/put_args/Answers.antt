use Rattle.kts_syntax.proofs.TextLemmas.{names_here, names_none}
use Rattle.kts_syntax.proofs.printer.put_args.Goals as goal

pub returns-then-is_empty : goal.returns-then-is_empty
returns-then-is_empty g c = rw (← names_none c.args.words.now c.if-is_empty.ensures) at c.put.ensures.wrote

pub returns : goal.returns
returns g c = rw (← names_here c.args.words.now _ c.if-is_empty.ensures c.index-words-0.is) at c.put_some.ensures
