use Rattle.std.proofs.Common.{◌∙◌, ap, inl, inr, length, length-append, ◌∷◌, [], arith}
use Rattle.kts_read.specs.Faults.{at_line}
use Rattle.kts_read.specs.Written.{written}
use Rattle.kts_read.proofs.Found.{step_adds, few_lines}
use Rattle.kts_read.specs.Reading.{finished, code_read}
use Rattle.kts_read.proofs.ReadLines.{line_read, line_fails, last_read, code_read_is, told_last}
use Rattle.kts_read.proofs.read.code_read.Goals as goal

pub take_line-requires : goal.take_line-requires
take_line-requires c =
    let lines = few_lines c.lines.draft c.lines.draft.part c.lines.invariant.good in
    let counted = c.lines.invariant.counted in
    let few = c.lines.invariant.few in
    omega (arith, lines, counted, few)

pub lines-preserved : goal.lines-preserved
lines-preserved c =
    let d = c.lines.draft in
    let one = step_adds c.lines.at c.lines.draft c.take_line.new.self c.split_once.result.0.now c.lines.invariant.good c.in_default.ensures.ok in
    let more = ap length one.lines ∙ length-append (written c.lines.draft c.lines.draft.part) (one.words ∷ []) in
    let counted = c.lines.invariant.counted in
    let few = c.lines.invariant.few in
    let shorter = rw c.in-Some.is at c.split_once.ensures.shorter in
    record {
      good = one.good;
      counted = omega (arith, more, counted);
      read = line_read c.lines.draft c.lines.at c.lines.rest.now c.split_once.result.0.now c.in-Some.after.now c.take_line.new.self _ (rw c.in-Some.is at c.split_once.ensures.pieces) c.in_default.ensures.ok c.lines.invariant.read;
      few = omega (arith, shorter, few);
    }

pub returns-in-Err-take_line : goal.returns-in-Err-take_line
returns-in-Err-take_line c =
    elim c.in-Err-take_line.ensures.err [
      | inl refused ↦ inl refused
      | inr fails ↦ inr (code_read_is c.args.bytes.now ∙ line_fails c.lines.draft c.lines.at c.lines.rest.now c.split_once.result.0.now c.in-Some.after.now c.in-Err-take_line.fault _ (rw c.in-Some.is at c.split_once.ensures.pieces) fails c.lines.invariant.read)
    ]

pub returns-in-Ok : goal.returns-in-Ok
returns-in-Ok c =
    code_read_is c.args.bytes.now ∙ last_read c.lines.draft c.lines.at c.lines.rest.now c.split_once.result.0.now _ (rw c.in-None.is at c.split_once.ensures.pieces) c.lines.invariant.read
    ∙ ap (at_line c.lines.at) c.in-Ok.ensures

pub returns-in-Err : goal.returns-in-Err
returns-in-Err c =
    let read = code_read_is c.args.bytes.now ∙ last_read c.lines.draft c.lines.at c.lines.rest.now c.split_once.result.0.now _ (rw c.in-None.is at c.split_once.ensures.pieces) c.lines.invariant.read in
    rw c.told.ensures (told_last c.lines.at c.in-Err.kind (finished c.lines.draft c.split_once.result.0.now) (code_read c.args.bytes.now) read c.in-Err.ensures)
