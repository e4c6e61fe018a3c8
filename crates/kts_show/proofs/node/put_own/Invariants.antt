use Rattle.std.proofs.Common.{drop, map}
use Rattle.std.specs.List.{flat_map, zip}
use Rattle.kts_base.specs.Writes.{Part}
use Rattle.kts_spec.specs.Schedules.{tuples}
use Rattle.kts_abs.specs.Cells.{value_of}
use Rattle.kts_show.specs.Keys.{sizes_in}
use Rattle.kts_abs.specs.NodeTexts.{known_text}
use Rattle.kts_show.proofs.node.put_own.Given as goal

abbrev pub invariant-loop-at : goal.invariant-loop-at
invariant-loop-at g l =
    let known = zip (tuples (sizes_in l.inst l.family)) (map value_of l.own) in
    Part (g.S.Sink.log l.fn.out) (g.S.Sink.log l.out) (flat_map (known_text l.inst l.family) (drop l.at known)) (flat_map (known_text l.inst l.family) known)
