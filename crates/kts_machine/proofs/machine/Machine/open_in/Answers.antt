use Rattle.std.proofs.Common.{map, rules, arith}
use Rattle.kts_abs.specs.Cells.{value_of}
use Rattle.kts_abs.specs.Spaces.{types, IsAbove}
use Rattle.kts_machine.proofs.OpenedMachines.{cells_above}
use Rattle.kts_machine.proofs.TypesOfCells.{kinds_above}
use Rattle.kts_spec.specs.Worlds.{world_of}
use Rattle.kts_machine.proofs.machine.Machine.open_in.Goals as goal

pub with_cells-requires : goal.with_cells-requires
with_cells-requires g c =
    let w = world_of c.args.code.now.schema c.args.inst.now in
    let one = c.requires.one_word in
    let few = c.requires.few_words in
    let above : IsAbove (types w) (map value_of c.in_ok-cells.cells) =
    rw (c.in_ok-cells.ensures, c.as_slice.ensures, c.cells.ensures) c.requires.origin in
    let cells = c.in_ok-cells.cells in
    (omega arith, (search rules, (one, (few, (c.requires.valid, (cells_above w cells above, kinds_above w (map value_of cells) above))))))
