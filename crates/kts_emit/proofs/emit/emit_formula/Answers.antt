use Rattle.std.proofs.Common.{◌≡◌, ◌++◌, length, ap, ◌∙◌}
use Rattle.std.proofs.lemmas.Result.{on_ok_weaker}
use Rattle.kts_emit.specs.Codes.{formula_code}
use Rattle.kts_emit.proofs.EmittedCode.{shown_code, formula_fits}
use Rattle.kts_emit.proofs.EmittedRuns.{formula_runs}
use Rattle.kts_emit.proofs.emit.emit_formula.Goals as goal

pub append-requires : goal.append-requires
append-requires c =
    let used = length c.args.b.now.instrs in
    let e = shown_code (formula_code c.args.f.now) c.new-draft.result c.draft_formula.new.draft c.as_slice.result.now c.in_ok-base.base used c.args.scope
    c.new-draft.ensures c.in_ok-draft_formula.ensures c.as_slice.ensures c.in_ok-base.ensures.base in
    formula_fits c.as_slice.result.now c.args.f.now c.in_ok-base.base used c.args.scope c.length_formula.result e c.length_formula.ensures
    c.in_ok-base.ensures.fits

pub returns-clause-pushes : goal.returns-clause-pushes
returns-clause-pushes c =
    let old = c.args.b.now.instrs in
    let new = c.append.new.self.instrs in
    let shown = c.as_slice.result.now in
    let e = shown_code (formula_code c.args.f.now) c.new-draft.result c.draft_formula.new.draft shown c.in_ok-base.base (length old) c.args.scope
    c.new-draft.ensures c.in_ok-draft_formula.ensures c.as_slice.ensures c.in_ok-base.ensures.base in
    on_ok_weaker c.append.result
    (λ (h : new ≡ old ++ shown). formula_runs c.args.f.now old new c.args.scope (h ∙ ap (λ l. old ++ l) e)) c.append.ensures.instrs
