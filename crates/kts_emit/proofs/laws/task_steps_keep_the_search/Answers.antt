use Rattle.kts_emit.proofs.KeptSearch.{task_steps_keep}
use Rattle.kts_emit.proofs.laws.task_steps_keep_the_search.Goals as goal

pub returns : goal.returns
returns c = task_steps_keep
