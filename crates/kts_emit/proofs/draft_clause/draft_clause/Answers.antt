use Rattle.std.proofs.Common.{◌≡◌, ◌+◌, ◌++◌, length, ap, ◌∙◌}
use Rattle.kts_code.specs.declared.instructions.Instr.TheVariants.{True, And}
use Rattle.kts_emit.specs.ClauseCode.{literals_code}
use Rattle.kts_emit.specs.Fragments.{nested_loops}
use Rattle.kts_emit.proofs.DraftSteps.{bound_drafted, loops_open}
use Rattle.kts_emit.proofs.draft_clause.draft_clause.Goals as goal

pub close_loops-requires : goal.close_loops-requires
close_loops-requires c =
    loops_open c.args.base True c.args.draft.now c.open_loops.new.draft c.draft_literals.new.draft c.as_slice-prefix.result.now
    (literals_code c.as_slice.result.now) 0 c.in_ok-scope.scope c.len-at.result c.len-at.ensures c.in_ok-scope.ensures.code c.in_ok-draft_literals.ensures

pub returns : goal.returns
returns c =
    let draft = c.args.draft.now in
    let place = c.args.base + length draft in
    let prefix = c.as_slice-prefix.result.now in
    let literals = c.as_slice.result.now in
    let drafted = bound_drafted c.args.base True And draft c.open_loops.new.draft c.draft_literals.new.draft c.close_loops.new.draft prefix
    (literals_code literals) 0 c.in_ok-scope.scope c.len-at.result c.in_ok-scope.ensures.depth c.len-at.ensures c.in_ok-scope.ensures.code
    c.in_ok-draft_literals.ensures c.in_ok-close_loops.ensures.code in
    drafted ∙ ap (λ indexes. draft ++ nested_loops True And indexes (literals_code literals) place 0) (c.as_slice-prefix.ensures ∙ c.prefix.ensures)
    ∙ ap (λ ls. draft ++ nested_loops True And c.args.clause.now.prefix (literals_code ls) place 0) (c.as_slice.ensures ∙ c.literals.ensures)
