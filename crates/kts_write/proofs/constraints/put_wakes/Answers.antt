use Rattle.std.proofs.Common.{◌+◌, drop, map}
use Rattle.std.proofs.lemmas.Result.{err_from_is_err_and}
use Rattle.kts_base.proofs.Pieces.{goes_on, stops}
use Rattle.kts_code.specs.CodeTexts.{wake_words}
use Rattle.kts_write.proofs.LineTexts.{lines_text, lines_here}
use Rattle.kts_write.proofs.constraints.put_wakes.Goals as goal

pub returns-in_err-put_wake : goal.returns-in_err-put_wake
returns-in_err-put_wake g c =
    let p = err_from_is_err_and c.from_residual.result c.from_residual.ensures.1 in
    rw p.1 (stops (lines_text (map wake_words (drop (c.loop-pattern.pattern-index + 1) c.args.patterns.now))) c.loop-pattern.invariant
    (lines_here wake_words c.args.patterns.now c.loop-pattern.pattern-index c.pattern-item.result
    c.loop-pattern-test.true c.pattern-item.is) c.in_err-put_wake.ensures)

pub loop-pattern-preserved : goal.loop-pattern-preserved
loop-pattern-preserved g c =
    goes_on (lines_text (map wake_words (drop (c.loop-pattern.pattern-index + 1) c.args.patterns.now))) c.loop-pattern.invariant
    (lines_here wake_words c.args.patterns.now c.loop-pattern.pattern-index c.pattern-item.result
    c.loop-pattern-test.true c.pattern-item.is) c.in_ok-put_wake.ensures
