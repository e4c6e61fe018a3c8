use Rattle.std.proofs.Common.{◌≡◌, drop, length, map}
use Rattle.kts_base.specs.Writes.{Part}
use Rattle.kts_spec.specs.Places.{cell_count}
use Rattle.kts_spec.specs.Worlds.{world_of}
use Rattle.kts_abs.specs.Cells.{value_of}
use Rattle.kts_abs.specs.NodeTexts.{known_cells_text}
use Rattle.kts_show.proofs.NodeParts.{known_from}
use Rattle.kts_show.proofs.node.put_cells.Given as goal

-- what is left are the cells from the next choice on, and what is known of them
abbrev pub invariant-loop-family : goal.invariant-loop-family
invariant-loop-family g l =
    let x = l.family-index in
    record {
      long : length l.rest ≡ cell_count (world_of l.schema l.inst) (drop x l.schema.choices);
      written : Part (g.S.Sink.log l.fn.out) (g.S.Sink.log l.out) (known_from l.schema l.inst x (map value_of l.rest)) (known_cells_text l.schema l.inst (map value_of l.cells));
    }
