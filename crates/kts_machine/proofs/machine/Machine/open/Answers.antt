use Rattle.std.proofs.Common.{◌∙◌, rules, arith}
use Rattle.kts_abs.specs.Spaces.{types}
use Rattle.kts_machine.specs.TypeCells.{IsOpening}
use Rattle.kts_machine.proofs.OpenedMachines.{opening_kinds}
use Rattle.kts_machine.proofs.TypesOfCells.{types_long}
use Rattle.kts_spec.specs.Worlds.{world_of}
use Rattle.kts_machine.proofs.machine.Machine.open.Goals as goal

pub with_cells-requires : goal.with_cells-requires
with_cells-requires g c =
    let w = world_of c.args.code.now.schema c.args.inst.now in
    let one = c.requires.one_word in
    let few = c.requires.few_words in
    let o = c.in_ok-opening.opening in
    let opening : IsOpening (types w) o.cells o.is_whole = rw c.schema.ensures at c.in_ok-opening.ensures in
    (omega arith, (search rules, (one, (few, (c.requires.valid, (opening.long ∙ types_long w, opening_kinds w o.cells o.is_whole opening))))))
