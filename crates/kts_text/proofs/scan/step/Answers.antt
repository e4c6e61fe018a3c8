use Rattle.std.proofs.Common.{◌≡◌, ◌∙◌, ◌+◌, ◌-◌, ◌<◌, ap, sym, inr, length, drop, arith, ◌∷◌, suc, refl}
use Rattle.std.proofs.lemmas.List.{length-append}
use Rattle.kts_text.specs.declared.node.Node.{Node}
use Rattle.std.specs.List.{AllByRecursion}
use Rattle.kts_text.specs.Ends.{filled}
use Rattle.kts_text.specs.Scan.{scan}
use Rattle.kts_text.specs.declared.scan.Mode.TheVariants.{Outside}
use Rattle.kts_text.proofs.Filling.{atom_filled, opened_filled, closed_filled, length-set_end, within_more, within_ended}
use Rattle.kts_text.proofs.Steps.{on_line, on_line_end, on_white, on_semicolon, on_bad, on_deep, on_open, on_extra, on_close, on_long, on_first, on_later}
use Rattle.kts_text.proofs.scan.step.Goals as goal

pub returns-then-byte-eq10-clause-ok : goal.returns-then-byte-eq10-clause-ok
returns-then-byte-eq10-clause-ok c =
    ap (filled c.args.nodes.now c.args.opened.now) (on_line_end c.args.mode 0 _ c.args.at c.args.bytes.now c.requires.inside c.in-Comment.is c.if-byte-eq10.true)

pub returns-else-byte-eq10-clause-ok : goal.returns-else-byte-eq10-clause-ok
returns-else-byte-eq10-clause-ok c =
    ap (filled c.args.nodes.now c.args.opened.now) (on_line c.args.mode 0 _ c.args.at c.args.bytes.now c.requires.inside c.in-Comment.is c.if-byte-eq10.false)

pub returns-then-depth-eq-MAX_NESTING-clause-err : goal.returns-then-depth-eq-MAX_NESTING-clause-err
returns-then-depth-eq-MAX_NESTING-clause-err c =
    rw c.fail.ensures (inr (on_deep c.args.mode c.in-Outside.letters _ c.args.at c.args.bytes.now c.requires.inside c.in-Outside.is c.in-Open.ensures (sym c.len-depth.ensures.len ∙ c.if-depth-eq-MAX_NESTING.true)))

pub returns-in-Open-clause-ok : goal.returns-in-Open-clause-ok
returns-in-Open-clause-ok c =
    ap (filled c.args.nodes.now c.args.opened.now) (on_open c.args.mode c.in-Outside.letters _ c.args.at c.args.bytes.now c.requires.inside c.in-Outside.is c.in-Open.ensures (λ h. c.if-depth-eq-MAX_NESTING.false (c.len-depth.ensures.len ∙ h)))
    ∙ opened_filled c.args.nodes.now c.args.opened.now c.args.at (length c.args.opened.now) (scan (Outside 0) (length c.args.opened.now + 1) (c.args.at + 1) (drop (c.args.at + 1) c.args.bytes.now)) c.requires.within
    ∙ sym (let e : suc (length c.args.opened.now) ≡ length c.args.opened.now + 1 = omega arith in rw (c.in_ok-push-in-Open.ensures.ok, c.push-in-Open.ensures, c.len-number.ensures, c.open_node.ensures, c.len-depth.ensures.len, e) refl)

pub returns-in-Open-clause-within : goal.returns-in-Open-clause-within
returns-in-Open-clause-within c =
    rw (c.in_ok-push-in-Open.ensures.ok, c.push-in-Open.ensures) (omega (arith, length-append {A = Node} c.args.nodes.now, c.len-number.ensures), within_more _ _ _ c.requires.within)

pub returns-then-len-eq0-clause-err : goal.returns-then-len-eq0-clause-err
returns-then-len-eq0-clause-err c =
    rw c.fail-then-len-eq0.ensures (inr (on_extra c.args.mode c.in-Outside.letters _ c.args.at c.args.bytes.now c.requires.inside c.in-Outside.is c.in-Close.ensures (sym c.len.ensures.len ∙ c.if-len-eq0.true)))

pub returns-in-Close-clause-ok : goal.returns-in-Close-clause-ok
returns-in-Close-clause-ok c =
    ap (filled c.args.nodes.now c.args.opened.now) (on_close c.args.mode c.in-Outside.letters _ c.args.at c.args.bytes.now c.requires.inside c.in-Outside.is c.in-Close.ensures (λ h. c.if-len-eq0.false (c.len.ensures.len ∙ h)))
    ∙ rw (c.pop-number.ensures, c.end_list.ensures) (closed_filled c.args.nodes.now c.pop-number.new.self c.pop-number.result (c.args.at + 1) _ ∙ let e : suc (length c.pop-number.new.self) - 1 ≡ length c.pop-number.new.self = omega arith in rw e refl)

pub returns-in-Close-clause-within : goal.returns-in-Close-clause-within
returns-in-Close-clause-within c =
    let h : AllByRecursion (λ k. k < length c.args.nodes.now) (c.pop-number.result ∷ c.pop-number.new.self) = rw c.pop-number.ensures at c.requires.within in
    rw c.end_list.ensures (within_ended _ _ _ _ _ h.1)

pub returns-then-letters-ge-MAX_ATOM_BYTES-clause-err : goal.returns-then-letters-ge-MAX_ATOM_BYTES-clause-err
returns-then-letters-ge-MAX_ATOM_BYTES-clause-err c =
    rw c.fail-then-letters-ge-MAX_ATOM_BYTES.ensures (inr (on_long c.args.mode c.in-Outside.letters _ c.args.at c.args.bytes.now c.requires.inside c.in-Outside.is c.in-Letter.ensures c.if-letters-ge-MAX_ATOM_BYTES.true))

pub returns-then-letters-eq0-clause-ok : goal.returns-then-letters-eq0-clause-ok
returns-then-letters-eq0-clause-ok c =
    ap (filled c.args.nodes.now c.args.opened.now) (on_first c.args.mode c.in-Outside.letters _ c.args.at c.args.bytes.now c.requires.inside c.in-Outside.is c.in-Letter.ensures c.if-letters-eq0.true)
    ∙ atom_filled c.args.nodes.now c.args.opened.now _ (scan (Outside 1) (length c.args.opened.now) (c.args.at + 1) (drop (c.args.at + 1) c.args.bytes.now)) c.requires.within
    ∙ sym (rw (c.in_ok-push-in-Letter.ensures.ok, c.atom_node.ensures, c.letters_from.ensures.count, c.len-then-letters-eq0.ensures.len) refl)

pub returns-then-letters-eq0-clause-within : goal.returns-then-letters-eq0-clause-within
returns-then-letters-eq0-clause-within c =
    rw c.in_ok-push-in-Letter.ensures.ok (within_more _ _ _ c.requires.within)

pub returns-in-Letter-clause-ok : goal.returns-in-Letter-clause-ok
returns-in-Letter-clause-ok c =
    ap (filled c.args.nodes.now c.args.opened.now) (on_later c.args.mode c.in-Outside.letters _ c.args.at c.args.bytes.now c.requires.inside c.in-Outside.is c.in-Letter.ensures (omega arith) c.if-letters-eq0.false)

pub returns-in-Bad-clause-err : goal.returns-in-Bad-clause-err
returns-in-Bad-clause-err c =
    rw c.fail-in-Bad.ensures (inr (on_bad c.args.mode c.in-Outside.letters _ c.args.at c.args.bytes.now c.requires.inside c.in-Outside.is c.in-Bad.ensures))

pub returns-in-White-clause-ok : goal.returns-in-White-clause-ok
returns-in-White-clause-ok c =
    ap (filled c.args.nodes.now c.args.opened.now) (on_white c.args.mode c.in-Outside.letters _ c.args.at c.args.bytes.now c.requires.inside c.in-Outside.is c.in-White.ensures)

pub returns-in-Semicolon-clause-ok : goal.returns-in-Semicolon-clause-ok
returns-in-Semicolon-clause-ok c =
    ap (filled c.args.nodes.now c.args.opened.now) (on_semicolon c.args.mode c.in-Outside.letters _ c.args.at c.args.bytes.now c.requires.inside c.in-Outside.is c.in-Semicolon.ensures)

pub returns-in-Close-clause-few : goal.returns-in-Close-clause-few
returns-in-Close-clause-few c = rw c.end_list.ensures (omega (arith, length-set_end c.args.nodes.now))
