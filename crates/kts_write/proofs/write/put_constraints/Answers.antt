use Rattle.std.proofs.Common.{map}
use Rattle.std.proofs.lemmas.Result.{err_from_is_err_and}
use Rattle.kts_base.proofs.Pieces.{after, stops_first}
use Rattle.kts_code.specs.CodeTexts.{wake_words}
use Rattle.kts_write.proofs.LineTexts.{lines_text}
use Rattle.kts_write.proofs.write.put_constraints.Goals as goal

pub returns-in_err-put_tasks : goal.returns-in_err-put_tasks
returns-in_err-put_tasks g c =
    let p = err_from_is_err_and c.from_residual.result c.from_residual.ensures.1 in
    let d = rw (c.as_slice.ensures, c.entries.ensures, c.as_slice-2.ensures, c.tasks.ensures, c.schema.ensures) at c.in_err-put_tasks.ensures in
    rw p.1 (stops_first (lines_text (map wake_words c.args.code.now.index)) d)

pub returns : goal.returns
returns g c =
    let d = rw (c.as_slice.ensures, c.entries.ensures, c.as_slice-2.ensures, c.tasks.ensures, c.schema.ensures) at c.in_ok-put_tasks.ensures in
    let e = rw (c.as_slice-3.ensures, c.patterns.ensures, c.index.ensures) at c.put_wakes.ensures in
    after c.put_wakes.result _ (lines_text (map wake_words c.args.code.now.index)) d e
