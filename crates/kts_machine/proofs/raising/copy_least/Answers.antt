use Rattle.std.proofs.Common.{◌≡◌, ◌∙◌, map, arith, to_z, of_z, w64}
use Rattle.std.proofs.lemmas.Int.{ints, to_z-of_z}
use Rattle.std.proofs.lemmas.List.{length-set}
use Rattle.kts_abs.specs.Cells.{value_of}
use Rattle.kts_abs.specs.Spaces.{least_in}
use Rattle.kts_machine.proofs.RaisedCells.{copied-more, value_got}
use Rattle.kts_machine.proofs.raising.copy_least.Goals as goal

pub loop-k-preserved : goal.loop-k-preserved
loop-k-preserved g c =
    let i = c.loop-k.invariant in
    let within = c.loop-k-test.true in
    let end = c.len-k-end.ensures.len in
    let back : to_z w64 (of_z w64 c.least.result) ≡ c.least.result = grind (arith, ints, to_z-of_z) in
    let kept : to_z w64 (of_z w64 c.least.result) ≡ least_in (value_of c.get.result) = back ∙ c.least.ensures in
    rw kept (record {
      long = length-set c.loop-k.values.items c.loop-k.k (least_in (value_of c.get.result)) ∙ i.long;
      copied = copied-more least_in c.loop-k.values.items (map value_of c.args.row.now.cells) c.loop-k.k (value_of c.get.result) (omega (arith, within, end, i.long))
          (value_got c.args.row.now.cells c.loop-k.k c.get.result c.get.ensures) i.copied;
    })
