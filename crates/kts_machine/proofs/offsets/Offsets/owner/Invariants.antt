use Rattle.std.proofs.Common.{◌+◌, ◌<◌, length}
use Rattle.kts_spec.specs.Places.{offset}
use Rattle.kts_spec.specs.Worlds.{world_of}
use Rattle.kts_machine.proofs.offsets.Offsets.owner.Given as goal

-- the cell stands before those of the next choice
abbrev pub invariant-loop-x : goal.invariant-loop-x
invariant-loop-x l = record {
  declared : l.x < length l.schema.choices;
  before : l.k < offset (world_of l.schema l.inst) (l.x + 1);
}

abbrev pub decreases-loop-x : goal.decreases-loop-x
decreases-loop-x l = l.x
