use Rattle.std.proofs.Common.{◌∙◌, arith}
use Rattle.kts_check.proofs.ListLemmas.{two_are, two_none}
use Rattle.kts_check.proofs.measures.two_wholes.Goals as goal

pub returns-then-kinds-ne2 : goal.returns-then-kinds-ne2
returns-then-kinds-ne2 c = two_none c.args.kinds.now c.if-kinds-ne2.true

pub returns : goal.returns
returns c = c.both_wholes.ensures ∙ two_are c.args.kinds.now _ _ (omega arith)
