use Rattle.std.proofs.Common.{◌≡◌, ◌∙◌, ap, sym, inl, inr, length, Err, arith, ℕ}
use Rattle.std.proofs.lemmas.Result.{err_from_is_err_and}
use Rattle.kts_text.specs.Ends.{filled}
use Rattle.kts_text.specs.Faults.{tree_fault}
use Rattle.kts_text.specs.declared.fault.TreeKind.TheVariants.{Unclosed}
use Rattle.kts_text.proofs.WholeFiles.{fails_at, ends_with, ends_empty, at_end, at_end_inside}
use Rattle.kts_text.proofs.scan.read_nodes.Goals as goal

pub returns-then-len-gt0-clause-err : goal.returns-then-len-gt0-clause-err
returns-then-len-gt0-clause-err c =
    let e : length c.args.bytes.now ≡ c.loop-at.at = omega arith in
    rw c.fail-then-len-gt0.ensures (inr (fails_at c.args.bytes.now _ (sym c.loop-at.invariant.same ∙ at_end_inside c.loop-at.mode c.loop-at.at c.args.bytes.now c.loop-at.nodes c.loop-at.opened c.loop-at-test.false (omega arith)) ∙ ap (λ (n : ℕ). Err (tree_fault Unclosed n)) (sym e)))

pub returns-then-len-eq0-clause-err : goal.returns-then-len-eq0-clause-err
returns-then-len-eq0-clause-err c =
    rw c.fail-then-len-eq0.ensures (inr (ends_empty c.args.bytes.now c.loop-at.nodes (sym c.loop-at.invariant.same ∙ at_end c.loop-at.mode c.loop-at.at c.args.bytes.now c.loop-at.nodes c.loop-at.opened c.loop-at-test.false (omega arith)) (omega arith)))

pub returns-clause-ok : goal.returns-clause-ok
returns-clause-ok c =
    ends_with c.args.bytes.now c.loop-at.nodes (sym c.loop-at.invariant.same ∙ at_end c.loop-at.mode c.loop-at.at c.args.bytes.now c.loop-at.nodes c.loop-at.opened c.loop-at-test.false (omega arith)) (λ h. c.if-len-eq0.false (c.len-2.ensures ∙ h))

pub returns-in_err-mode-clause-err : goal.returns-in_err-mode-clause-err
returns-in_err-mode-clause-err c =
    let p = err_from_is_err_and c.from_residual-in_err-mode.result c.from_residual-in_err-mode.ensures.1 in
    rw (p.1, p.2) (elim c.in_err-mode.ensures.err [
      | inl refused ↦ inl refused
      | inr read ↦ inr (fails_at c.args.bytes.now _ (sym c.loop-at.invariant.same ∙ ap (filled c.loop-at.nodes c.loop-at.opened) read))
    ])
