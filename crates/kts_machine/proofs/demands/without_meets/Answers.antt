use Rattle.std.proofs.Common.{sym, ◌∙◌, ap, not}
use Rattle.kts_sets.specs.Sets.{elem}
use Rattle.kts_machine.proofs.SetDemands.{meets_without_one, meets_without_none}
use Rattle.kts_machine.proofs.demands.without_meets.Goals as goal

pub returns-in-Some : goal.returns-in-Some
returns-in-Some g c =
    ap not (c.contains.ensures ∙ ap (elem c.in-Some.member) c.set.ensures.members)
    ∙ meets_without_one c.args.bound.now c.args.cell.now c.set-set.ensures.valid.set c.in-Some.member (sym c.single.ensures.value ∙ c.in-Some.is)

pub returns-in-None : goal.returns-in-None
returns-in-None g c = meets_without_none c.args.bound.now c.args.cell.now c.set-set.ensures.valid.set (sym c.single.ensures.value ∙ c.in-None.is)
