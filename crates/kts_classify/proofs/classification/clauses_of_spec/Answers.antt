use Rattle.std.proofs.Common.{◌≡◌, ℕ, sym, ap, ◌∙◌, subst, ◌<◌, List, length, take, get_or, ◌++◌, arith}
use Rattle.std.specs.Prelude.{flat_map}
use Rattle.std.specs.List.{enumerate_from}
use Rattle.std.proofs.lemmas.List.{length-map}
use Rattle.kts_spec.proofs.Conditions.{spec_facts}
use Rattle.kts_spec.specs.Answers.{formulas_of}
use Rattle.kts_spec.specs.declared.tree.Formula.{Formula}
use Rattle.kts_clause.specs.Clauses.{clauses_of}
use Rattle.kts_classify.proofs.HeadLists.{numbered_more, numbered_all, at_map}
use Rattle.kts_classify.proofs.PlanCounts.{item_trees}
use Rattle.kts_classify.proofs.classification.clauses_of_spec.Goals as goal

pub overflow_cast-number : goal.overflow_cast-number
overflow_cast-number c =
    let same = ap length (c.as_slice-formula-items.ensures ∙ c.formulas.ensures) in
    let few = (spec_facts c.args.spec.now).few_formulas in
    let here = c.loop-number-test.true in
    omega (arith, same, few, here)

pub append_clauses-requires : goal.append_clauses-requires
append_clauses-requires c =
    item_trees c.args.spec.now c.as_slice-formula-items.result.now c.loop-number.number c.formula-item.result (c.as_slice-formula-items.ensures ∙ c.formulas.ensures) c.loop-number-test.true c.formula-item.is

pub loop-number-preserved : goal.loop-number-preserved
loop-number-preserved c =
    let F = λ (numbered : ℕ × Formula). clauses_of numbered.0 numbered.1 in
    let second = λ (f : List ℕ × Formula). f.1 in
    let ps = formulas_of c.args.spec.now in
    let k = c.loop-number.number in
    let f = c.formula-item.result in
    let same = c.as_slice-formula-items.ensures ∙ c.formulas.ensures in
    let here : k < length c.args.spec.now.formulas = subst (λ items. k < length items) same c.loop-number-test.true in
    let is : f ≡ get_or c.args.spec.now.formulas k f = subst (λ items. f ≡ get_or items k f) same c.formula-item.is in
    let there : k < length ps = subst (λ n. k < n) (sym (length-map c.args.spec.now.formulas second)) here in
    let more = numbered_more F ps k f.1 there ∙ ap (λ p. flat_map F (take k (enumerate_from 0 ps)) ++ clauses_of k p) (at_map second c.args.spec.now.formulas k f f.1 here is) in
    c.in_ok-append_clauses.ensures ∙ ap (λ l. l ++ clauses_of k f.1) c.loop-number.invariant ∙ sym more

pub returns : goal.returns
returns c =
    let ps = formulas_of c.args.spec.now in
    let same = ap length (c.as_slice-formula-items.ensures ∙ c.formulas.ensures) in
    let long = length-map c.args.spec.now.formulas (λ (f : List ℕ × Formula). f.1) in
    let at_end = c.loop-number-test.false in
    let within = c.loop-number.auto in
    let end : c.loop-number.number ≡ length ps = omega (arith, same, long, at_end, within.number-end) in
    c.loop-number.invariant ∙ numbered_all (λ (numbered : ℕ × Formula). clauses_of numbered.0 numbered.1) ps c.loop-number.number end
