use Rattle.std.proofs.Common.{◌∙◌, sym, ap, inl, inr, ◌==◌, length}
use Rattle.std.proofs.lemmas.Result.{err_from_is_err_and}
use Rattle.kts_check.specs.Forms.{declarations_in}
use Rattle.kts_check.specs.Trees.{phrase_of}
use Rattle.kts_check.specs.Contexts.{name_of}
use Rattle.kts_check.proofs.ContextLemmas.{scope_ends}
use Rattle.kts_check.proofs.TreeLemmas.{name_fails, arguments_fail, name_says, operator_fails, operands_fail, operator_says, part_fails, part_on, parts_end, gives_same, if_ok}
use Rattle.kts_check.proofs.trees.+trees.Goals as goal

pub phrases_at-returns-in_err-phrase_of-clause-phrases : goal.phrases_at-returns-in_err-phrase_of-clause-phrases
phrases_at-returns-in_err-phrase_of-clause-phrases t c =
    let p = err_from_is_err_and c.from_residual.result c.from_residual.ensures.1 in
    let here = rw c.loop-part.invariant.same at c.in_err-phrase_of.ensures.phrase in
    rw (p.1, p.2) (elim here [
      | inl e ↦ inl e
      | inr e ↦ inr (part_fails (phrase_of (declarations_in c.args.table.now) c.args.own.now) c.args.scope.now.variables.items c.args.way c.args.parts.now c.loop-part.part-index c.part-item.result c.loop-part.phrases _ _ c.loop-part-test.true c.part-item.is e c.loop-part.invariant.so_far)
    ])

pub phrases_at-loop-part-preserved : goal.phrases_at-loop-part-preserved
phrases_at-loop-part-preserved t c =
    let here = rw c.loop-part.invariant.same at c.in_ok-phrase_of.ensures.phrase in
    record {
      so_far = rw c.in_ok-push.ensures.ok
          (part_on (phrase_of (declarations_in c.args.table.now) c.args.own.now) c.args.scope.now.variables.items c.args.way c.args.parts.now c.loop-part.part-index c.part-item.result c.loop-part.phrases _ _ c.loop-part-test.true c.part-item.is here c.loop-part.invariant.so_far);
      same = c.in_ok-phrase_of.ensures.scope ∙ c.loop-part.invariant.same;
    }

pub phrases_at-returns-clause-phrases : goal.phrases_at-returns-clause-phrases
phrases_at-returns-clause-phrases t c =
    parts_end (phrase_of (declarations_in c.args.table.now) c.args.own.now) c.args.scope.now.variables.items c.args.way c.args.parts.now c.loop-part.part-index c.loop-part.phrases _ c.loop-part-test.false c.loop-part.invariant.so_far

pub phrases_at-returns-clause-scope : goal.phrases_at-returns-clause-scope
phrases_at-returns-clause-scope t c = c.loop-part.invariant.same

pub phrase_of-returns-in_err-named-in-Some-clause-phrase : goal.phrase_of-returns-in_err-named-in-Some-clause-phrase
phrase_of-returns-in_err-named-in-Some-clause-phrase t c =
    let p = err_from_is_err_and c.from_residual.result c.from_residual.ensures.1 in
    rw (p.1, p.2) (inr (name_fails (declarations_in c.args.table.now) c.args.own.now c.args.expr.now c.args.scope.now.variables.items c.args.way c.in-Some.word c.is_empty.result (ap name_of (sym c.head.ensures) ∙ sym c.in-Some.ensures)
    (c.is_empty.ensures ∙ ap (λ xs. length xs == 0) (c.as_slice-parts.ensures ∙ c.parts.ensures)) _ (sym c.in_err-named-in-Some.ensures)))

pub phrase_of-returns-in_err-phrases-in-Some-clause-phrase : goal.phrase_of-returns-in_err-phrases-in-Some-clause-phrase
phrase_of-returns-in_err-phrases-in-Some-clause-phrase t c =
    let p = err_from_is_err_and c.from_residual-in_err-phrases-in-Some.result c.from_residual-in_err-phrases-in-Some.ensures.1 in
    let here = rw (c.as_slice-parts.ensures ∙ c.parts.ensures) at c.in_err-phrases-in-Some.ensures.phrases in
    rw (p.1, p.2) (elim here [
      | inl e ↦ inl e
      | inr e ↦ inr (arguments_fail (declarations_in c.args.table.now) c.args.own.now c.args.expr.now c.args.scope.now.variables.items c.args.way c.in-Some.word c.is_empty.result (ap name_of (sym c.head.ensures) ∙ sym c.in-Some.ensures)
          (c.is_empty.ensures ∙ ap (λ xs. length xs == 0) (c.as_slice-parts.ensures ∙ c.parts.ensures)) _ (sym c.in_ok-named-in-Some.ensures) _ e)
    ])

pub phrase_of-returns-in_ok-phrases-in-Some-clause-phrase : goal.phrase_of-returns-in_ok-phrases-in-Some-clause-phrase
phrase_of-returns-in_ok-phrases-in-Some-clause-phrase t c =
    let here = rw (c.as_slice-parts.ensures ∙ c.parts.ensures) at c.in_ok-phrases-in-Some.ensures.phrases in
    let last = rw c.at.ensures at c.reference_phrase.ensures in
    gives_same _ _ (name_says (declarations_in c.args.table.now) c.args.own.now c.args.expr.now c.args.scope.now.variables.items c.args.way c.in-Some.word c.is_empty.result (ap name_of (sym c.head.ensures) ∙ sym c.in-Some.ensures)
    (c.is_empty.ensures ∙ ap (λ xs. length xs == 0) (c.as_slice-parts.ensures ∙ c.parts.ensures)) _ (sym c.in_ok-named-in-Some.ensures) _ here ∙ sym last)

pub phrase_of-returns-in_err-context-in-None-clause-phrase : goal.phrase_of-returns-in_err-context-in-None-clause-phrase
phrase_of-returns-in_err-context-in-None-clause-phrase t c =
    let p = err_from_is_err_and c.from_residual-in_err-context-in-None.result c.from_residual-in_err-context-in-None.ensures.1 in
    let here = rw (c.head-in-None.ensures, c.as_slice-binders.ensures ∙ c.binders.ensures) at c.in_err-context-in-None.ensures in
    rw (p.1, p.2) (elim here [
      | inl e ↦ inl e
      | inr e ↦ inr (operator_fails (declarations_in c.args.table.now) c.args.own.now c.args.expr.now c.args.scope.now.variables.items c.args.way (ap name_of (sym c.head.ensures) ∙ sym c.in-None.ensures) _ e)
    ])

pub phrase_of-returns-in_err-phrases-in-None-clause-phrase : goal.phrase_of-returns-in_err-phrases-in-None-clause-phrase
phrase_of-returns-in_err-phrases-in-None-clause-phrase t c =
    let p = err_from_is_err_and c.from_residual-in_err-phrases-in-None.result c.from_residual-in_err-phrases-in-None.ensures.1 in
    let placed = rw (c.head-in-None.ensures, c.as_slice-binders.ensures ∙ c.binders.ensures) at c.in_ok-context-in-None.ensures in
    let here = rw (c.as_slice-parts.ensures ∙ c.parts.ensures) at c.in_err-phrases-in-None.ensures.phrases in
    rw (p.1, p.2) (elim here [
      | inl e ↦ inl e
      | inr e ↦ inr (operands_fail (declarations_in c.args.table.now) c.args.own.now c.args.expr.now c.args.scope.now.variables.items c.args.way (ap name_of (sym c.head.ensures) ∙ sym c.in-None.ensures) _ placed _ e)
    ])

pub phrase_of-returns-in_ok-phrases-in-None-clause-phrase : goal.phrase_of-returns-in_ok-phrases-in-None-clause-phrase
phrase_of-returns-in_ok-phrases-in-None-clause-phrase t c =
    let placed = rw (c.head-in-None.ensures, c.as_slice-binders.ensures ∙ c.binders.ensures) at c.in_ok-context-in-None.ensures in
    let here = rw (c.as_slice-parts.ensures ∙ c.parts.ensures) at c.in_ok-phrases-in-None.ensures.phrases in
    let last = rw (c.at-in-None.ensures, c.head-in-None-2.ensures) at c.operator_phrase.ensures in
    rw (operator_says (declarations_in c.args.table.now) c.args.own.now c.args.expr.now c.args.scope.now.variables.items c.args.way (ap name_of (sym c.head.ensures) ∙ sym c.in-None.ensures) _ placed _ here) last

pub phrase_of-returns-in_ok-phrases-in-None-clause-scope : goal.phrase_of-returns-in_ok-phrases-in-None-clause-scope
phrase_of-returns-in_ok-phrases-in-None-clause-scope t c =
    let placed = rw (c.head-in-None.ensures, c.as_slice-binders.ensures ∙ c.binders.ensures) at c.in_ok-context-in-None.ensures in
    let cut = rw c.len-outer.ensures at c.truncate.ensures in
    if_ok _ (cut ∙ scope_ends (declarations_in c.args.table.now).names c.args.own.now _ _ c.args.scope.now.variables.items _ c.args.way _ placed c.in_ok-phrases-in-None.ensures.scope)
