use Rattle.kts_search.proofs.PlannedCode.{instrs_made}
use Rattle.kts_search.proofs.generator.instruction_buffer.Goals as goal

pub returns : goal.returns
returns c =
    instrs_made c.args.plan.now c.args.count _ _ _ _ _ c.requires.counted c.in_ok-code.ensures c.in_ok-emit_head.ensures c.in_ok-emit_filters.ensures
    c.in_ok-emit_tail.ensures c.in_ok-emit_bodies.ensures
