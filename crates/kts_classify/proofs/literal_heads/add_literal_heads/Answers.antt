use Rattle.std.proofs.Common.{◌≡◌, sym, ap, ◌∙◌, ◌++◌, map}
use Rattle.std.proofs.lemmas.List.{append-nil}
use Rattle.std.proofs.lemmas.Result.{on_ok_weaker}
use Rattle.kts_spec.specs.declared.tree.Formula.{Formula}
use Rattle.kts_plan.specs.Heads.{heads_of, heads_of_assertion}
use Rattle.kts_plan.specs.Assertions.{comparison_assertion, assertion_of}
use Rattle.kts_classify.specs.HeadPlaces.{definite_at, signed_comparison}
use Rattle.kts_classify.proofs.AssertionEquations.{assertion_of-Compare, assertion_of-other}
use Rattle.kts_classify.proofs.literal_heads.add_literal_heads.Goals as goal

pub returns-in-Compare : goal.returns-in-Compare
returns-in-Compare c =
    let negative = c.args.literal.now.negative in
    let k = c.in-Compare.comparison in
    let a = c.in-Compare.a in
    let b = c.in-Compare.b in
    let same = ap (signed_comparison k) (sym c.negative.ensures) ∙ sym c.signed-comparison.ensures in
    let form = ap (λ (p : Formula). assertion_of p negative) (sym c.formula.ensures ∙ c.in-Compare.is) ∙ assertion_of-Compare k a b negative ∙ ap (λ x. comparison_assertion x a b) same in
    let heads : heads_of_assertion (comparison_assertion c.signed-comparison.result a b) ≡ heads_of c.args.literal.now = ap heads_of_assertion (sym form) in
    on_ok_weaker c.add_comparison_heads.result (λ e. e ∙ ap (λ hs. c.args.definites.now ++ map (definite_at c.args.at) hs) heads) c.add_comparison_heads.ensures

pub returns-in_default : goal.returns-in_default
returns-in_default c =
    let none = ap (λ (p : Formula). assertion_of p c.args.literal.now.negative) (sym c.formula.ensures) ∙ assertion_of-other c.formula.result.now c.args.literal.now.negative c.in_default.not-Compare in
    sym (ap (λ form. c.args.definites.now ++ map (definite_at c.args.at) (heads_of_assertion form)) none ∙ append-nil c.args.definites.now)
