use Rattle.std.proofs.Common.{◌≡◌, ◌-◌, ◌^◌, min, ap, ◌∙◌}
use Rattle.kts_emit.specs.ClauseCode.{literals_weight}
use Rattle.kts_emit.specs.Weights.{once, nested_weight}
use Rattle.kts_emit.proofs.CountedCode.{nested_stops}
use Rattle.kts_emit.proofs.clause.length_clause.Goals as goal

pub returns : goal.returns
returns c =
    let prefix = c.as_slice-2.result.now in
    let literals = c.as_slice.result.now in
    c.nested_length.ensures ∙ ap (λ n. min (nested_weight once prefix n) (2 ^ 64 - 1)) c.literals_length-literals.ensures
    ∙ nested_stops prefix (literals_weight once literals)
    ∙ ap (λ indexes. min (nested_weight once indexes (literals_weight once literals)) (2 ^ 64 - 1)) (c.as_slice-2.ensures ∙ c.prefix.ensures)
    ∙ ap (λ ls. min (nested_weight once c.args.clause.now.prefix (literals_weight once ls)) (2 ^ 64 - 1)) (c.as_slice.ensures ∙ c.literals.ensures)
