use Rattle.kts_plan.proofs.ResidualNumbers.{residuals_are_numbered}
use Rattle.kts_plan.proofs.SolutionOrder.{least_is_unique}
use Rattle.kts_plan.proofs.WalkedSchedules.{none_is_lost, single_is_right, walks_answer}
use Rattle.kts_plan.proofs.WalkOrder.{walk_is_unique}
use Rattle.kts_plan.proofs.laws.solution_laws.Goals as goal

pub returns : goal.returns
returns c = record { lost = none_is_lost; single = single_is_right; unique = least_is_unique; one_walk = walk_is_unique; residuals = residuals_are_numbered; walks = walks_answer }
