use Rattle.std.proofs.Common.{◌+◌, drop, map, arith}
use Rattle.std.specs.Prelude.{zip}
use Rattle.std.proofs.lemmas.Result.{err_from_is_err_and}
use Rattle.kts_base.proofs.Pieces.{goes_on, stops, ends}
use Rattle.kts_code.specs.CodeTexts.{task_words}
use Rattle.kts_write.proofs.LineTexts.{lines_text, tasks_here, tasks_end}
use Rattle.kts_write.proofs.constraints.put_tasks.Goals as goal

pub returns-in_err-put_task : goal.returns-in_err-put_task
returns-in_err-put_task g c =
    let p = err_from_is_err_and c.from_residual.result c.from_residual.ensures.1 in
    let es = c.args.entries.now in
    let ps = c.args.prefixes.now in
    let here = tasks_here c.args.entries.now c.args.prefixes.now c.loop-k.k _ c.index-prefixes-k.result (omega arith) (omega arith) c.index-prefixes-k.is in
    rw p.1 (stops (lines_text (map task_words (zip (drop (c.loop-k.k + 1) es) (drop (c.loop-k.k + 1) ps))))
    c.loop-k.invariant here (rw c.as_slice.ensures at c.in_err-put_task.ensures))

pub loop-k-preserved : goal.loop-k-preserved
loop-k-preserved g c =
    let es = c.args.entries.now in
    let ps = c.args.prefixes.now in
    let here = tasks_here c.args.entries.now c.args.prefixes.now c.loop-k.k _ c.index-prefixes-k.result (omega arith) (omega arith) c.index-prefixes-k.is in
    goes_on (lines_text (map task_words (zip (drop (c.loop-k.k + 1) es) (drop (c.loop-k.k + 1) ps))))
    c.loop-k.invariant here (rw c.as_slice.ensures at c.in_ok-put_task.ensures)

pub returns : goal.returns
returns g c = ends c.loop-k.invariant (tasks_end _ _ c.loop-k.k (omega arith))
