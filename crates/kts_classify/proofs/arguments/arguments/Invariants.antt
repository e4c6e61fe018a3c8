use Rattle.std.proofs.Common.{◌≡◌, take}
use Rattle.kts_plan.specs.TaskReads.{prefix_arguments}
use Rattle.kts_classify.proofs.arguments.arguments.Given as goal

-- the arguments so far
abbrev pub invariant-loop-arg : goal.invariant-loop-arg
invariant-loop-arg l = l.arguments ≡ prefix_arguments l.variables (take l.arg-index l.args)
