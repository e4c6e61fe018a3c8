use Rattle.std.proofs.Common.{sym}
use Rattle.kts_rows.proofs.Spare.{spare-set, Falls-join}
use Rattle.kts_rows.proofs.row.Row.rise.Goals as goal

pub returns-in-Some-clause-spare : goal.returns-in-Some-clause-spare
returns-in-Some-clause-spare g c = rw c.write.ensures
    (spare-set g.L.Semi.extent c.args.self.now.cells c.args.at c.get-cell.result c.in-Some.join c.get-cell.ensures
    (Falls-join g.L.Semi.Valid g.L.Semi.le g.L.Semi.joined g.L.Semi.extent g.met.L.Semi.laws c.get-cell.result c.args.bound.now c.in-Some.join
    c.leq.ensures.other_valid c.leq.ensures.valid (sym c.if-leq.ensures.value) (sym c.in-Some.ensures)))
