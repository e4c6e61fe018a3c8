use Rattle.kts_data.proofs.JsonLemmas.{name_utf8}
use Rattle.kts_data.proofs.lookup.find.Goals as goal

pub unreachable-requires : goal.unreachable-requires
unreachable-requires c = c.in-Err.ensures.cases.0 (rw c.bytes.ensures.bytes (name_utf8 c.args.name.now c.bytes.ensures.name))
