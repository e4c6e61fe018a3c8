use Rattle.kts_emit.specs.Weights.{length_of_formula}
use Rattle.kts_emit.proofs.CountedCode.{nested_stops}
use Rattle.kts_emit.proofs.LengthEquations.{length_of_formula-Forall, length_of_formula-Exists}
use Rattle.kts_emit.proofs.lengths.+lengths.Goals as goal

pub length_formula-returns-in-Forall : goal.length_formula-returns-in-Forall
length_formula-returns-in-Forall t c =
    let i = c.in-Forall in
    let e = nested_stops i.indexes (length_of_formula i.p) in
    let f = length_of_formula-Forall i.indexes i.p in
    cc (c.nested_length.ensures, c.length_formula-in-Forall.ensures, c.get-in-Forall.ensures, c.as_slice-in-Forall.ensures, i.is)

pub length_formula-returns-in-Exists : goal.length_formula-returns-in-Exists
length_formula-returns-in-Exists t c =
    let i = c.in-Exists in
    let e = nested_stops i.indexes (length_of_formula i.p) in
    let f = length_of_formula-Exists i.indexes i.p in
    cc (c.nested_length-in-Exists.ensures, c.length_formula-in-Exists.ensures, c.get-in-Exists.ensures, c.as_slice-in-Exists.ensures, i.is)
