use Rattle.std.proofs.Common.{take}
use Rattle.kts_machine.specs.TypeCells.{IsOpening, types_of}
use Rattle.kts_spec.specs.Worlds.{world_of}
use Rattle.kts_machine.proofs.types.opening_of.Given as goal

abbrev pub invariant-loop-family : goal.invariant-loop-family
invariant-loop-family g l = IsOpening (types_of (world_of l.schema l.inst) (take l.family-index l.schema.choices)) l.opening.cells l.opening.is_whole
