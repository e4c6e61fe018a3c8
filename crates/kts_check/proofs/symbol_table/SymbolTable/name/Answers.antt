use Rattle.std.proofs.Common.{refl, nat_eq}
use Rattle.std.specs.Cmp.Lexicographic.{pointwise}
use Rattle.indexmap.proofs.CallerLemmas.{insert_entry-new}
use Rattle.kts_check.proofs.symbol_table.SymbolTable.name.Goals as goal

pub returns-in-Ok-clause-ok : goal.returns-in-Ok-clause-ok
returns-in-Ok-clause-ok c = rw (c.in-Ok.ensures.entries, insert_entry-new (pointwise nat_eq) c.args.self.now.names c.args.name c.args.entry c.requires) refl
