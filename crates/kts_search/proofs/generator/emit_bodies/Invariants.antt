use Rattle.std.proofs.Common.{◌≡◌, ◌++◌, length, drop, map}
use Rattle.kts_emit.specs.BodyRuns.{bodies_code}
use Rattle.kts_plan.specs.Constraints.{constraint_of}
use Rattle.kts_search.proofs.generator.emit_bodies.Given as goal

abbrev pub invariant-loop-definite : goal.invariant-loop-definite
invariant-loop-definite l =
    l.code.instrs ++ bodies_code 1 l.fail (map (constraint_of l.plan.clauses) (drop l.definite-index l.definites)) (length l.code.instrs)
    ≡ l.initial.code.instrs ++ bodies_code 1 l.fail (map (constraint_of l.plan.clauses) l.definites) (length l.initial.code.instrs)
