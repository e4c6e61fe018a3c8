use Rattle.std.proofs.Common.{◌∙◌, sym, arith}
use Rattle.kts_text.proofs.Letters.{letters_go_on, letters_past}
use Rattle.kts_text.proofs.scan.letters_from.Goals as goal

pub loop-end-preserved : goal.loop-end-preserved
loop-end-preserved c =
    let more = letters_go_on c.args.bytes.now c.loop-end.end c.loop-end-test.true (sym c.class_of.ensures ∙ c.in-Letter.is) in
    record { from = omega arith; within = omega arith; count = omega (arith, more, c.loop-end.invariant.count) }

pub returns : goal.returns
returns c = record { count = omega (arith, letters_past c.args.bytes.now c.loop-end.end c.loop-end-test.false, c.loop-end.invariant.count); within = omega arith }
