use Rattle.std.proofs.Common.{◌≡◌, [], ◌∷◌, ◌++◌, map}
use Rattle.std.proofs.lemmas.Result.{on_ok_weaker}
use Rattle.kts_code.specs.declared.instructions.Instr.TheVariants.{Jump}
use Rattle.kts_emit.specs.Bodies.{bound_code, op_instr}
use Rattle.kts_emit.specs.Codes.{term_code}
use Rattle.kts_emit.proofs.DraftedBodies.{head_drafted}
use Rattle.kts_emit.proofs.draft_body.draft_head.Goals as goal

pub returns : goal.returns
returns c =
    let h = c.args.head.now in
    let e = head_drafted c.args.base c.args.draft.now (map term_code h.args) (bound_code h.bound) (op_instr h.op h.choice c.args.fail) (Jump c.args.done) c.args.scope in
    on_ok_weaker c.push-2.result
    (λ (g : c.push-2.new.self ≡ c.push.new.self ++ Jump c.args.done ∷ []).
    cc (c.in_ok-draft_terms.ensures, c.as_slice.ensures, c.args-2.ensures, c.in_ok-draft_side.ensures, c.bound.ensures, c.in_ok-push.ensures.ok, c.op_instr.ensures, c.op.ensures, c.choice.ensures))
    c.push-2.ensures.ok
