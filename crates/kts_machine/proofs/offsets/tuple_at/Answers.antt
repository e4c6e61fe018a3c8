use Rattle.std.proofs.Common.{sym, ◌∙◌, length, map, slice_index}
use Rattle.kts_machine.proofs.TupleSpots.{spot-one, spot-two}
use Rattle.kts_machine.proofs.ShortLists.{two_items}
use Rattle.kts_machine.proofs.offsets.tuple_at.Goals as goal

pub returns-then-indexes-eq1 : goal.returns-then-indexes-eq1
returns-then-indexes-eq1 c = spot-one (slice_index (map length c.args.inst.now.members)) c.args.indexes.now c.args.at c.if-indexes-eq1.true c.requires.within

pub returns : goal.returns
returns c = spot-two (slice_index (map length c.args.inst.now.members)) c.args.indexes.now c.args.at c.size-count.result (two_items c.args.indexes.now c.requires.few c.if-indexes-eq1.false (sym c.is_empty.ensures ∙ c.if-is_empty.false)) c.size-count.ensures c.requires.within
