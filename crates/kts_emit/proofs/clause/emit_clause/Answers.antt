use Rattle.std.proofs.Common.{◌≡◌, ◌++◌, length, ap, ◌∙◌}
use Rattle.std.proofs.lemmas.Result.{on_ok_weaker}
use Rattle.kts_emit.specs.ClauseCode.{clause_code}
use Rattle.kts_emit.proofs.ClausePushes.{clause_runs}
use Rattle.kts_emit.proofs.EmittedCode.{shown_code}
use Rattle.kts_emit.proofs.LongClauses.{clause_fits}
use Rattle.kts_emit.proofs.clause.emit_clause.Goals as goal

pub append-requires : goal.append-requires
append-requires c =
    let used = length c.args.b.now.instrs in
    let e = shown_code (clause_code c.args.clause.now) c.new-draft.result c.draft_clause.new.draft c.as_slice.result.now c.in_ok-base.base used 0
    c.new-draft.ensures c.in_ok-draft_clause.ensures c.as_slice.ensures c.in_ok-base.ensures.base in
    clause_fits c.as_slice.result.now c.args.clause.now used c.length_clause.result e c.length_clause.ensures c.in_ok-base.ensures.fits

pub returns-clause-pushes : goal.returns-clause-pushes
returns-clause-pushes c =
    let old = c.args.b.now.instrs in
    let new = c.append.new.self.instrs in
    let shown = c.as_slice.result.now in
    let e = shown_code (clause_code c.args.clause.now) c.new-draft.result c.draft_clause.new.draft shown c.in_ok-base.base (length old) 0
    c.new-draft.ensures c.in_ok-draft_clause.ensures c.as_slice.ensures c.in_ok-base.ensures.base in
    on_ok_weaker c.append.result
    (λ (h : new ≡ old ++ shown). clause_runs c.args.clause.now old new (h ∙ ap (λ l. old ++ l) e)) c.append.ensures.instrs
