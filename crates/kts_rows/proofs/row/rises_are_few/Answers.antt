use Rattle.kts_rows.proofs.Few.{rises_few}
use Rattle.kts_rows.proofs.row.rises_are_few.Goals as goal

pub returns : goal.returns
returns g c = rises_few g.L.Semi.Valid g.L.Semi.le g.L.Semi.joined g.L.Semi.extent g.met.L.Semi.laws
