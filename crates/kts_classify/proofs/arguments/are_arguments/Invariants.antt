use Rattle.std.proofs.Common.{◌≡◌, drop}
use Rattle.kts_plan.specs.TaskReads.{prefix_arguments}
use Rattle.kts_classify.specs.PlanPatterns.{same_arguments}
use Rattle.kts_classify.proofs.arguments.are_arguments.Given as goal

-- what is left to compare gives the answer
abbrev pub invariant-loop-k : goal.invariant-loop-k
invariant-loop-k l = same_arguments (prefix_arguments l.variables l.args) l.others ≡ same_arguments (drop l.k (prefix_arguments l.variables l.args)) (drop l.k l.others)
