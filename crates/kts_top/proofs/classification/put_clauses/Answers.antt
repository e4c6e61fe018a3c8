use Rattle.std.proofs.Common.{◌+◌, ◌∙◌, drop, length, refl, arith, sym}
use Rattle.std.proofs.lemmas.List.Sums.{prefix_len-le-length}
use Rattle.std.proofs.lemmas.Result.{err_from_is_err_and}
use Rattle.kts_base.proofs.Pieces.{goes_on, stops}
use Rattle.kts_top.specs.ClassifyTexts.{lines_from, residual_count}
use Rattle.kts_top.proofs.ClassifiedClauses.{is_of, own_is, later_is, lines_here, clause_there}
use Rattle.kts_top.proofs.classification.put_clauses.Goals as goal

pub split_at-parts-requires : goal.split_at-parts-requires
split_at-parts-requires g c = rw c.count_own-count.ensures (prefix_len-le-length (is_of c.loop-number.number) c.loop-number.rest.now)

pub returns-in_err-put_clause : goal.returns-in_err-put_clause
returns-in_err-put_clause g c =
    let p = err_from_is_err_and c.from_residual.result c.from_residual.ensures.1 in
    let formulas = c.args.spec.now.formulas in
    let choices = c.args.spec.now.schema.choices in
    let cs = c.args.plan.now.clauses in
    let k = c.loop-number.number in
    let there = clause_there cs c.as_slice-clause-items.result.now k c.clause-item.result (c.as_slice-clause-items.ensures ∙ c.clauses.ensures) c.loop-number-test.true c.clause-item.is in
    let own = c.split_at-parts.result.0.now in
    let front = c.split_at-parts.ensures.front ∙ own_is cs k c.clause-item.result there c.loop-number.rest.now c.loop-number.invariant.rest c.count_own-count.result c.count_own-count.ensures in
    let here = lines_here formulas choices cs k c.clause-item.result there c.loop-number.definites c.loop-number.residuals own (length own) (residual_count own) front refl refl in
    rw p.1 (stops (lines_from formulas choices (k + 1) (c.loop-number.definites + length own) (c.loop-number.residuals + residual_count own) (drop (k + 1) cs)) c.loop-number.invariant.written here c.in_err-put_clause.ensures)

pub loop-number-preserved : goal.loop-number-preserved
loop-number-preserved g c =
    let formulas = c.args.spec.now.formulas in
    let choices = c.args.spec.now.schema.choices in
    let cs = c.args.plan.now.clauses in
    let k = c.loop-number.number in
    let there = clause_there cs c.as_slice-clause-items.result.now k c.clause-item.result (c.as_slice-clause-items.ensures ∙ c.clauses.ensures) c.loop-number-test.true c.clause-item.is in
    let own = c.split_at-parts.result.0.now in
    let count = c.count_own-count.result in
    let more = c.residual_count-residuals.result in
    let front = c.split_at-parts.ensures.front ∙ own_is cs k c.clause-item.result there c.loop-number.rest.now c.loop-number.invariant.rest count c.count_own-count.ensures in
    let here = lines_here formulas choices cs k c.clause-item.result there c.loop-number.definites c.loop-number.residuals own count more front (sym c.split_at-parts.ensures.front_len) c.residual_count-residuals.ensures.count in
    let total = c.loop-number.invariant.total in
    let back = c.split_at-parts.ensures.back_len in
    let few = c.loop-number.invariant.few in
    let one = c.residual_count-residuals.ensures.few in
    record {
      rest = c.split_at-parts.ensures.back ∙ later_is cs k c.clause-item.result there c.loop-number.rest.now c.loop-number.invariant.rest count c.count_own-count.ensures;
      total = omega (arith, total, back, prefix_len-le-length (is_of k) c.loop-number.rest.now, c.count_own-count.ensures);
      few = omega (arith, few, one);
      written = goes_on (lines_from formulas choices (k + 1) (c.loop-number.definites + count) (c.loop-number.residuals + more) (drop (k + 1) cs)) c.loop-number.invariant.written here c.in_ok-put_clause.ensures;
    }
