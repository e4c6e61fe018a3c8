use Rattle.kts_code.proofs.WorkedRun.{before, first, whole, halted, going}
use Rattle.kts_code.proofs.laws.worked_run.Goals as goal

pub returns-clause-before : goal.returns-clause-before
returns-clause-before c = before

pub returns-clause-first : goal.returns-clause-first
returns-clause-first c = first

pub returns-clause-whole : goal.returns-clause-whole
returns-clause-whole c = whole

pub returns-clause-halted : goal.returns-clause-halted
returns-clause-halted c = halted

pub returns-clause-going : goal.returns-clause-going
returns-clause-going c = going
