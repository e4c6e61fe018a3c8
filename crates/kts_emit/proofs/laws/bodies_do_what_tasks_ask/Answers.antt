use Rattle.kts_emit.proofs.TaskRuns.{bodies_do_what_tasks_ask, taken_tasks_do_what_they_ask}
use Rattle.kts_emit.proofs.laws.bodies_do_what_tasks_ask.Goals as goal

pub returns-clause-alone : goal.returns-clause-alone
returns-clause-alone c = bodies_do_what_tasks_ask

pub returns-clause-taken : goal.returns-clause-taken
returns-clause-taken c = taken_tasks_do_what_they_ask
