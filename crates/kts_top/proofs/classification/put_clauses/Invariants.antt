use Rattle.std.proofs.Common.{◌≡◌, ◌+◌, ◌≤◌, drop, length}
use Rattle.kts_base.specs.Writes.{Part}
use Rattle.kts_top.specs.ClassifyTexts.{lines_from}
use Rattle.kts_top.proofs.ClassifiedClauses.{definites_from}
use Rattle.kts_top.proofs.classification.put_clauses.Given as goal

-- what is left are the constraints from the next clause on, and its lines
abbrev pub invariant-loop-number : goal.invariant-loop-number
invariant-loop-number g l =
    let x = l.number in
    let lines = lines_from l.spec.formulas l.spec.schema.choices in
    record {
      rest : l.rest ≡ definites_from x (drop x l.plan.clauses);
      total : l.definites + length l.rest ≡ length l.plan.definites;
      few : l.residuals ≤ x;
      written : Part (g.S.Sink.log l.fn.out) (g.S.Sink.log l.out) (lines x l.definites l.residuals (drop x l.plan.clauses)) (lines 0 0 0 l.plan.clauses);
    }
