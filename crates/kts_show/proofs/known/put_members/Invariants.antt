use Rattle.std.proofs.Common.{◌-◌, ◌*◌, map, pos}
use Rattle.kts_base.specs.Writes.{Part}
use Rattle.kts_abs.specs.Values.{Mem}
use Rattle.kts_abs.specs.NodeTexts.{range_text}
use Rattle.kts_show.proofs.SetMembers.{left_from}
use Rattle.kts_show.proofs.known.put_members.Given as goal

abbrev pub invariant-loop-m : goal.invariant-loop-m
invariant-loop-m g l = Part (g.S.Sink.log l.fn.out) (g.S.Sink.log l.out) (left_from l.names l.before l.next l.set) (range_text l.names (Mem (map pos l.choice)))

abbrev pub decreases-loop-m : goal.decreases-loop-m
decreases-loop-m g l = 64 * g.row.W - l.next
