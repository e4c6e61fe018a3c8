use Rattle.std.proofs.Common.{sym, ◌∙◌, ap, List, ℕ, map, pos}
use Rattle.std.specs.Prelude.{option_map, filter}
use Rattle.kts_abs.specs.Values.{Mem}
use Rattle.kts_sets.specs.Choices.{unless_empty}
use Rattle.kts_sets.specs.Sets.{other}
use Rattle.kts_machine.proofs.SetDemands.{raised_without_one, raised_without_none}
use Rattle.kts_machine.proofs.demands.without_raised.Goals as goal

pub returns-in-Some : goal.returns-in-Some
returns-in-Some g c =
    ap (option_map (λ (ms : List ℕ). Mem (map pos ms))) (c.new.ensures.choice ∙ ap unless_empty (c.without.ensures ∙ ap (filter (other c.in-Some.member)) c.set-in-Some.ensures.members))
    ∙ raised_without_one c.args.bound.now c.args.cell.now c.set.ensures.valid.set c.in-Some.member (sym c.single.ensures.value ∙ c.in-Some.is)

pub returns-in-None : goal.returns-in-None
returns-in-None g c = raised_without_none c.args.bound.now c.args.cell.now c.set.ensures.valid.set c.set-2.ensures.valid (sym c.single.ensures.value ∙ c.in-None.is)
