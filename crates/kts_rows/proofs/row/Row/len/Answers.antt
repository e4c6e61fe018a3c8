use Rattle.std.proofs.Common.{vec_capacity}
use Rattle.kts_rows.proofs.Parts.{IsRow-parts}
use Rattle.kts_rows.proofs.row.Row.len.Goals as goal

pub returns-clause-valid : goal.returns-clause-valid
returns-clause-valid g c = rw (← c.self.view_is)
    (IsRow-parts c.self.inside.opened c.self.inside.slots.items c.self.inside.trail.items c.self.inside.starts.items c.self.inside.depth
    (vec_capacity c.self.inside.starts) (vec_capacity c.self.inside.trail) c.self.invariant)
