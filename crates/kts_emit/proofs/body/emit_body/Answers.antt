use Rattle.std.proofs.Common.{◌≡◌, ◌++◌, length, ap, ◌∙◌}
use Rattle.std.proofs.lemmas.Result.{on_ok_weaker}
use Rattle.kts_emit.specs.Bodies.{body_code, constraint_in}
use Rattle.kts_emit.proofs.DraftedBodies.{body_fits}
use Rattle.kts_emit.proofs.EmittedCode.{shown_code}
use Rattle.kts_emit.proofs.TaskRuns.{body_runs}
use Rattle.kts_emit.proofs.body.emit_body.Goals as goal

pub append-requires : goal.append-requires
append-requires c =
    let used = length c.args.b.now.instrs in
    let k = constraint_in c.args.clause.now c.args.definite.now in
    let vars = length c.args.clause.now.prefix in
    let e = shown_code (body_code k c.args.done c.args.fail) c.new-draft.result c.draft_body.new.draft c.as_slice.result.now c.in_ok-base.base used vars
    c.new-draft.ensures c.in_ok-draft_body.ensures c.as_slice.ensures c.in_ok-base.ensures.base in
    body_fits c.as_slice.result.now k c.args.done c.args.fail used vars c.length_body.result e c.length_body.ensures c.in_ok-base.ensures.fits

pub returns-clause-does : goal.returns-clause-does
returns-clause-does c =
    let old = c.args.b.now.instrs in
    let new = c.append.new.self.instrs in
    let shown = c.as_slice.result.now in
    let k = constraint_in c.args.clause.now c.args.definite.now in
    let vars = length c.args.clause.now.prefix in
    let e = shown_code (body_code k c.args.done c.args.fail) c.new-draft.result c.draft_body.new.draft shown c.in_ok-base.base (length old) vars
    c.new-draft.ensures c.in_ok-draft_body.ensures c.as_slice.ensures c.in_ok-base.ensures.base in
    on_ok_weaker c.append.result
    (λ (h : new ≡ old ++ shown). body_runs k c.args.done c.args.fail old new (h ∙ ap (λ l. old ++ l) e)) c.append.ensures.instrs
