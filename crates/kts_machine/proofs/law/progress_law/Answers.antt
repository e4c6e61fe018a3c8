use Rattle.kts_machine.proofs.RunsOfProgress.{whole_run, stopped_run, within_budget, stops_for_cause}
use Rattle.kts_machine.proofs.law.progress_law.Goals as goal

pub returns-clause-whole : goal.returns-clause-whole
returns-clause-whole c = whole_run

pub returns-clause-stopped : goal.returns-clause-stopped
returns-clause-stopped c = stopped_run

pub returns-clause-budget : goal.returns-clause-budget
returns-clause-budget c = within_budget

pub returns-clause-cause : goal.returns-clause-cause
returns-clause-cause c = stops_for_cause
