use Rattle.std.proofs.Common.{◌∙◌, ap, List, ℕ, map, pos}
use Rattle.std.specs.Prelude.{option_map}
use Rattle.kts_abs.specs.Values.{Mem}
use Rattle.kts_machine.proofs.SetDemands.{raised_within}
use Rattle.kts_machine.proofs.demands.set_raised.Goals as goal

pub returns-in-Within : goal.returns-in-Within
returns-in-Within g c = rw c.in-Within.is (ap (option_map (λ (ms : List ℕ). Mem (map pos ms))) c.join.ensures ∙ raised_within c.args.bound.now c.args.cell.now)
