use Rattle.std.proofs.Common.{sym, ap, ◌∙◌, get_or}
use Rattle.kts_classify.proofs.PlanFacts.{same_item}
use Rattle.kts_plan.specs.Constraints.{no_clause}
use Rattle.kts_search.proofs.generator.clause_of.Goals as goal

pub returns : goal.returns
returns c =
    let plan = c.args.plan.now in
    let x = c.index-as_slice-number.result in
    let there = c.index-as_slice-number.is ∙ ap (λ xs. get_or xs c.args.number x) (c.as_slice.ensures ∙ c.clauses.ensures) in
    sym (same_item plan.clauses c.args.number x no_clause c.requires there)
