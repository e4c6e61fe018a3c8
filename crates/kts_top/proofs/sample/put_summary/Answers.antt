use Rattle.kts_top.proofs.SampleRuns.{summary_put, cut_short}
use Rattle.kts_top.proofs.sample.put_summary.Goals as goal

pub returns-in-Ok : goal.returns-in-Ok
returns-in-Ok g c text lines all = summary_put c.args.size text c.args.outcome c.requires lines c.args.count all c.in-Ok.ensures c.end_run.ensures

pub returns-in-Err : goal.returns-in-Err
returns-in-Err g c text lines all = cut_short c.args.size text c.args.outcome c.requires lines c.args.count all c.in-Err.ensures
