use Rattle.std.proofs.Common.{◌≡◌, take}
use Rattle.kts_rows.specs.Trails.{bottoms}
use Rattle.kts_rows.proofs.trail.slots_of.Given as goal

abbrev pub invariant-loop-cell : goal.invariant-loop-cell
invariant-loop-cell g l = l.slots.items ≡ bottoms (take l.cell-index l.cells)
