use Rattle.kts_abs.proofs.Raises.{demands_are_met, met_demands_stay, raises_lower_room}
use Rattle.kts_abs.proofs.laws.demand_laws.Goals as goal

pub returns : goal.returns
returns c = record { met = demands_are_met; stay = met_demands_stay; room = raises_lower_room }
