use Rattle.kts_data.proofs.MemberLemmas.{new_after}
use Rattle.kts_data.proofs.roster.Roster.from_names.Goals as goal

pub take-requires : goal.take-requires
take-requires c =
    let new = new_after c.args.names.now c.name-item.result c.loop-name.name-index c.loop-name-test.true c.name-item.is c.requires in
    rw (c.loop-name.invariant, new)
