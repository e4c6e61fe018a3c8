use Rattle.std.proofs.lemmas.Result.{err_from_is_err_and}
use Rattle.kts_base.proofs.Pieces.{after, stops_first}
use Rattle.kts_show.specs.PathTexts.{path_text}
use Rattle.kts_top.specs.Runs.{shown_path}
use Rattle.kts_top.proofs.run.put_whole_end.Goals as goal

pub returns-in_err-put_end : goal.returns-in_err-put_end
returns-in_err-put_end g c =
    let p = err_from_is_err_and c.from_residual.result c.from_residual.ensures.1 in
    rw p.1 (stops_first (shown_path c.args.path) c.in_err-put_end.ensures)

pub returns-in-Some : goal.returns-in-Some
returns-in-Some g c = rw c.in-Some.is (after c.put_path.result _ (path_text c.in-Some.longest c.in-Some.bound) c.in_ok-put_end.ensures c.put_path.ensures)
