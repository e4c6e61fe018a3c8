use Rattle.std.proofs.Common.{◌∙◌, arith}
use Rattle.std.proofs.lemmas.List.{length-set}
use Rattle.kts_machine.proofs.RaisedCells.{same-more}
use Rattle.kts_machine.proofs.raising.copy_cells.Goals as goal

pub loop-k-preserved : goal.loop-k-preserved
loop-k-preserved g c =
    let i = c.loop-k.invariant in
    let within = c.loop-k-test.true in
    let end = c.len-k-end.ensures.len in
    rw c.set.ensures (record {
      long = length-set c.loop-k.space.cells c.loop-k.k c.get.result ∙ i.long;
      copied = same-more c.loop-k.space.cells c.args.row.now.cells c.loop-k.k c.get.result (omega (arith, within, end, i.long)) c.get.ensures i.copied;
    })
