use Rattle.kts_top.proofs.ClassifiedClauses.{name_is}
use Rattle.kts_top.proofs.classification.put_definite.Goals as goal

pub returns : goal.returns
returns g c =
    let name = name_is c.args.spec.now.schema.choices c.args.definite.now.head.choice c.bytes_of.result.now (rw (c.choice_name-choice.ensures, c.choice.ensures, c.head-head.ensures) at c.bytes_of.ensures) in
    rw (c.as_bytes.ensures.value, c.format.ensures.text, c.formula_name.ensures, c.formula.ensures, c.as_bytes-2.ensures.value, c.format-2.ensures.text, c.clause.ensures, c.as_bytes-3.ensures.value, c.format-3.ensures.text, c.literal.ensures, c.op_word.ensures, c.op.ensures, c.head-head.ensures, name) at c.put_pieces.ensures
