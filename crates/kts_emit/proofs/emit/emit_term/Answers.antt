use Rattle.std.proofs.Common.{◌≡◌, ◌++◌, length, ap, ◌∙◌}
use Rattle.std.proofs.lemmas.Result.{on_ok_weaker}
use Rattle.kts_emit.specs.Codes.{term_code}
use Rattle.kts_emit.proofs.EmittedCode.{shown_code, term_fits}
use Rattle.kts_emit.proofs.EmittedRuns.{term_runs}
use Rattle.kts_emit.proofs.emit.emit_term.Goals as goal

pub append-requires : goal.append-requires
append-requires c =
    let used = length c.args.b.now.instrs in
    let e = shown_code (term_code c.args.t.now) c.new-draft.result c.draft_term.new.draft c.as_slice.result.now c.in_ok-base.base used c.args.scope
    c.new-draft.ensures c.in_ok-draft_term.ensures c.as_slice.ensures c.in_ok-base.ensures.base in
    term_fits c.as_slice.result.now c.args.t.now c.in_ok-base.base used c.args.scope c.length_term.result e c.length_term.ensures
    c.in_ok-base.ensures.fits

pub returns-clause-pushes : goal.returns-clause-pushes
returns-clause-pushes c =
    let old = c.args.b.now.instrs in
    let new = c.append.new.self.instrs in
    let shown = c.as_slice.result.now in
    let e = shown_code (term_code c.args.t.now) c.new-draft.result c.draft_term.new.draft shown c.in_ok-base.base (length old) c.args.scope
    c.new-draft.ensures c.in_ok-draft_term.ensures c.as_slice.ensures c.in_ok-base.ensures.base in
    on_ok_weaker c.append.result
    (λ (h : new ≡ old ++ shown). term_runs c.args.t.now old new c.args.scope (h ∙ ap (λ l. old ++ l) e)) c.append.ensures.instrs
