use Rattle.std.proofs.Common.{◌∙◌, ap, sym, Some, None, arith}
use Rattle.std.proofs.lemmas.Bool.{eqb-true}
use Rattle.kts_index.proofs.PatternArguments.{clash}
use Rattle.kts_index.proofs.tuples.clashes.Goals as goal

pub returns-in-Some-Some : goal.returns-in-Some-Some
returns-in-Some-Some c = λ same.
    let e = eqb-true c.in-Some-Some.place c.in-Some-Some.other same in
    clash c.args.args.now c.args.cell.now c.in-Some-Some.place None None (omega arith) (omega arith) c.in-Some-Some.is-0 (c.in-Some-Some.is-1 ∙ ap (λ k. Some k) (sym e)) c.if-cell.false
