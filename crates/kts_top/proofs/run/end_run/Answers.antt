use Rattle.kts_top.specs.Runs.{shown_path}
use Rattle.kts_top.proofs.RunAnswers.{trap_put}
use Rattle.kts_top.proofs.run.end_run.Goals as goal

pub returns-in-Trap : goal.returns-in-Trap
returns-in-Trap g c =
    trap_put (shown_path c.args.path) c.put_trap.result c.args.outcome c.in-Trap.kind c.in-Trap.pc c.in-Trap.is c.status_of-in-Trap.ensures c.put_trap.ensures
