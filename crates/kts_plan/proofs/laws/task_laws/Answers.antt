use Rattle.kts_plan.proofs.AskedCells.{asks_are_of_cells}
use Rattle.kts_plan.proofs.NarrowerBounds.{asks_are_monotone}
use Rattle.kts_plan.proofs.UnreadCells.{unread_cells}
use Rattle.kts_plan.proofs.laws.task_laws.Goals as goal

pub returns : goal.returns
returns c = record { monotone = asks_are_monotone; unread = unread_cells; cells = asks_are_of_cells }
