use Rattle.kts_index.proofs.BoundSums.{pairs_few}
use Rattle.kts_index.proofs.bound.paired_count.Goals as goal

pub count_tasks-requires : goal.count_tasks-requires
count_tasks-requires c = rw c.tasks_of.ensures (pairs_few _ _ _ _ _ c.requires.valid)

pub returns-clause-few : goal.returns-clause-few
returns-clause-few c = rw (c.count_tasks.ensures, c.tasks_of.ensures) (pairs_few _ _ _ _ _ c.requires.valid)
