use Rattle.std.proofs.Common.{◌≡◌, map, take}
use Rattle.kts_classify.specs.TaskSchemas.{prefix_in}
use Rattle.kts_classify.proofs.schema_of_tasks.prefixes.Given as goal

-- the prefixes of the constraints so far
abbrev pub invariant-loop-definite : goal.invariant-loop-definite
invariant-loop-definite l = l.prefixes ≡ map (prefix_in l.plan.clauses) (take l.definite-index l.definite-items)
