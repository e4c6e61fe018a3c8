use Rattle.std.proofs.Common.{◌+◌, drop}
use Rattle.std.specs.List.{flat_map, enumerate_from}
use Rattle.kts_base.specs.Writes.{Part}
use Rattle.kts_top.specs.ClassifyTexts.{definite_line}
use Rattle.kts_top.proofs.classification.put_definites.Given as goal

-- what is left are the lines of the constraints from the next one on
abbrev pub invariant-loop-k : goal.invariant-loop-k
invariant-loop-k g l =
    let line = definite_line l.spec.formulas l.spec.schema.choices l.clause in
    Part (g.S.Sink.log l.fn.out) (g.S.Sink.log l.out) (flat_map line (enumerate_from (l.first + l.k) (drop l.k l.own))) (flat_map line (enumerate_from l.first l.own))
