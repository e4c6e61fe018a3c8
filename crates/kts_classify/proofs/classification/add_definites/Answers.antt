use Rattle.std.proofs.Common.{◌≡◌, sym, ap, ◌∙◌, subst, ◌<◌, length, take, get_or, ◌++◌, append_assoc, arith}
use Rattle.std.specs.Prelude.{flat_map}
use Rattle.std.specs.List.{enumerate_from}
use Rattle.kts_plan.specs.Plans.{definites_of_literal}
use Rattle.kts_classify.proofs.HeadLists.{numbered_step, numbered_all}
use Rattle.kts_classify.proofs.classification.add_definites.Goals as goal

pub loop-k-preserved : goal.loop-k-preserved
loop-k-preserved c =
    let F = definites_of_literal c.args.number in
    let ls = c.args.clause.now.literals in
    let k = c.loop-k.k in
    let l = c.literal-item.result in
    let same = c.as_slice-literal-items.ensures ∙ c.literals.ensures in
    let step = numbered_step F ls k l (subst (λ items. k < length items) same c.loop-k-test.true) (subst (λ items. l ≡ get_or items k l) same c.literal-item.is) in
    c.in_ok-add_literal_heads.ensures ∙ ap (λ ds. ds ++ F (k, l)) c.loop-k.invariant ∙ append_assoc c.args.definites.now (flat_map F (take k (enumerate_from 0 ls))) (F (k, l))
    ∙ ap (λ ds. c.args.definites.now ++ ds) (sym step)

pub returns : goal.returns
returns c =
    let ls = c.args.clause.now.literals in
    let same = ap length (c.as_slice-literal-items.ensures ∙ c.literals.ensures) in
    let at_end = c.loop-k-test.false in
    let within = c.loop-k.auto in
    let end : c.loop-k.k ≡ length ls = omega (arith, same, at_end, within.k-end) in
    c.loop-k.invariant ∙ ap (λ ds. c.args.definites.now ++ ds) (numbered_all (definites_of_literal c.args.number) ls c.loop-k.k end)
